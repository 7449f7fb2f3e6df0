use Rattle.std.proofs.Common.{◌≡◌, drop}
use Rattle.facet_solver_types.specs.Named.{is_among, names_view}
use Rattle.facet_solver_types.proofs.typing.named.is_among.Given as goal

-- one of all has the name if one of the rest does
abbrev pub invariant-loop-one : goal.invariant-loop-one
invariant-loop-one l =
    is_among l.name (names_view l.names) ≡ is_among l.name (names_view (drop l.one-index l.names))
