use Rattle.std.proofs.Common.{◌≡◌, ◌∙◌, false, sym, arith}
use Rattle.std.proofs.lemmas.Grind.{common_steps}
use Rattle.facet_solver_types.specs.Links.{links_view}
use Rattle.facet_solver_types.specs.Walks.{is_marked}
use Rattle.facet_solver_types.proofs.Walks.{reach_ends, reach_more, reach_over}
use Rattle.facet_solver_types.proofs.catalogue.walks.+reach.Goals as goal
use Rattle.facet_solver_types.proofs.catalogue.walks.+reach.Goals.{then-over-eq0-via-then-over-eq0, then-over-eq0-via-else-over-eq0+then-is_marked}

pub returns-then-over-eq0 : goal.returns-then-over-eq0
returns-then-over-eq0 t c =
    let links = links_view c.args.links.now in
    let over = c.args.over in
    elim c.then-over-eq0.branch [
      | then-over-eq0-via-then-over-eq0 w ↦
          sym (reach_over links over c.args.marks.now c.args.place w.if-over-eq0.true)
      | then-over-eq0-via-else-over-eq0+then-is_marked w ↦
          sym (reach_ends links over c.args.marks.now c.args.place
          (sym w.is_marked.ensures ∙ w.if-is_marked.true))
    ]

pub returns : goal.returns
returns t c =
    let links = links_view c.args.links.now in
    let marks = c.args.marks.now in
    let free : is_marked marks c.args.place ≡ false = sym c.is_marked.ensures ∙ c.if-is_marked.false in
    let more = reach_more links c.args.over marks c.args.place c.if-over-eq0.false free in
    grind (arith, common_steps, more)
