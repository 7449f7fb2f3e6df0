use Rattle.std.proofs.Common.{◌≡◌, drop}
use Rattle.facet_solver_types.specs.Links.{links_view}
use Rattle.facet_solver_types.specs.Roots.{is_mentioned, is_mentioned_from}
use Rattle.facet_solver_types.proofs.typing.mentioned.is_mentioned.Given as goal

-- one of all mentions it if one of the rest does
abbrev pub invariant-loop-other : goal.invariant-loop-other
invariant-loop-other l =
    is_mentioned (links_view l.links) l.index
    ≡ is_mentioned_from l.other (links_view (drop l.other l.links)) l.index
