use Rattle.std.proofs.Common.{◌≡◌, false, sym, arith}
use Rattle.std.proofs.lemmas.Grind.{common_steps}
use Rattle.facet_solver_types.specs.Links.{links_view}
use Rattle.facet_solver_types.specs.Walks.{is_placed}
use Rattle.facet_solver_types.proofs.Walks.{placed_ends, placed_more, placed_over}
use Rattle.facet_solver_types.proofs.catalogue.walks.+add_type.Goals as goal
use Rattle.facet_solver_types.proofs.catalogue.walks.+add_type.Goals.{then-over-eq0-via-then-over-eq0, then-over-eq0-via-else-over-eq0+then-is_placed}

pub returns-then-over-eq0 : goal.returns-then-over-eq0
returns-then-over-eq0 t c =
    let needs = links_view c.args.needs.now in
    let over = c.args.over in
    let order = c.args.order.now.places.items in
    elim c.then-over-eq0.branch [
      | then-over-eq0-via-then-over-eq0 w ↦
          sym (placed_over needs over order c.args.place w.if-over-eq0.true)
      | then-over-eq0-via-else-over-eq0+then-is_placed w ↦
          sym (placed_ends needs over order c.args.place (grind (arith, common_steps)))
    ]

pub returns : goal.returns
returns t c =
    let needs = links_view c.args.needs.now in
    let order = c.args.order.now.places.items in
    let free : is_placed order c.args.place ≡ false = grind (arith, common_steps) in
    let more = placed_more needs c.args.over order c.args.place c.if-over-eq0.false free in
    grind (arith, common_steps, more)
