use Rattle.std.proofs.Common.{◌≡◌, ◌++◌, drop}
use Rattle.facet_solver_types.specs.Elsewhere.{taken}
use Rattle.facet_solver_types.specs.PlacedNames.{names_in}
use Rattle.facet_solver_types.specs.Sites.{site_view}
use Rattle.facet_solver_types.specs.Tokens.{tokens_view}
use Rattle.facet_solver_types.specs.Understood.{declarations_view}
use Rattle.facet_solver_types.proofs.declare.elsewhere.add_taken.Given as goal

-- those so far, and those of the other tokens
abbrev pub invariant-loop-at : goal.invariant-loop-at
invariant-loop-at l =
    declarations_view l.initial.found.items
    ++ taken (names_in l.declared) l.source (site_view l.site) (tokens_view l.tokens)
    ≡ declarations_view l.found.items
    ++ taken (names_in l.declared) l.source (site_view l.site)
    (tokens_view (drop l.at l.tokens))
