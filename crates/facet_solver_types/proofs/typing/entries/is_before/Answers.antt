use Rattle.std.proofs.Common.{◌≡◌, ◌∙◌, ap, ltb, sym}
use Rattle.facet_solver_types.specs.Links.{place_in}
use Rattle.facet_solver_types.specs.TypeEntries.{entry_view}
use Rattle.facet_solver_types.proofs.NamesBefore.{id_before}
use Rattle.facet_solver_types.proofs.typing.entries.is_before.Goals as goal

pub returns : goal.returns
returns c =
    let at = c.args.at in
    let id = c.args.id.now in
    ap (λ n. ltb n at) (c.place_in.ensures ∙ ap (λ names. place_in names id) c.requires.placed)
    ∙ sym (id_before entry_view c.args.entries.now id at c.requires.within)
