use Rattle.std.proofs.Common.{◌≡◌, ◌∙◌, ap, ltb, sym}
use Rattle.facet_solver_types.specs.Links.{place_in}
use Rattle.facet_solver_types.specs.Named.{named_view}
use Rattle.facet_solver_types.proofs.NamesBefore.{among_before}
use Rattle.facet_solver_types.proofs.typing.named.is_before.Goals as goal

pub returns : goal.returns
returns c =
    let at = c.args.at in
    let name = c.args.name.now in
    ap (λ n. ltb n at) (c.place_in.ensures ∙ ap (λ names. place_in names name) c.requires.placed)
    ∙ sym (among_before named_view c.args.names.now name at c.requires.within)
