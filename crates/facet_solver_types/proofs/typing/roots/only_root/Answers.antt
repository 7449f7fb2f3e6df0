use Rattle.std.proofs.Common.{ap, map, sym, ◌∙◌}
use Rattle.facet_solver_shape.specs.Names.{names_of}
use Rattle.facet_solver_types.specs.Links.{links_view}
use Rattle.facet_solver_types.specs.Mentions.{mention_view}
use Rattle.facet_solver_types.specs.PlacedNames.{names_in}
use Rattle.facet_solver_types.specs.Roots.{likely_roots, links, only, only_root, stand_in_names}
use Rattle.facet_solver_types.specs.Understood.{declarations_view}
use Rattle.facet_solver_types.specs.Uses.{uses_view}
use Rattle.facet_solver_types.proofs.Leads.{leads_same}
use Rattle.facet_solver_types.proofs.typing.roots.only_root.Goals as goal

pub returns : goal.returns
returns c =
    let ds = declarations_view c.args.declarations.list.now in
    let uses = uses_view c.in_ok-uses.uses.items in
    let names = names_in c.in_ok-names.names in
    leads_same mention_view (only_root ds) (only ds (uses_view c.deref-2.result.now)) c.only.result
    (ap (λ us. only ds (likely_roots ds (stand_in_names ds) (links ds us) us)) (sym c.in_ok-uses.ensures)
    ∙ ap (λ us. only ds (likely_roots ds (stand_in_names ds) (links ds (uses_view us)) uses)) (sym c.deref.ensures.value)
    ∙ ap (λ ls. only ds (likely_roots ds (stand_in_names ds) ls uses)) (sym c.in_ok-links.ensures)
    ∙ ap (λ ls. only ds (likely_roots ds (stand_in_names ds) (links_view ls) uses)) (sym c.in_ok-mentioned.ensures)
    ∙ ap (λ ns. only ds (likely_roots ds ns (links_view c.in_ok-mentioned.mentioned.links.items) uses))
    (sym c.in_ok-stand_ins.ensures)
    ∙ ap (λ ns. only ds (likely_roots ds (names_of ns) (links_view c.in_ok-mentioned.mentioned.links.items) uses))
    (sym c.in_ok-names.ensures)
    ∙ ap (only ds) (sym c.in_ok-roots.ensures)
    ∙ ap (λ us. only ds (uses_view us)) (sym c.deref-2.ensures.value))
    c.only.ensures
