use Rattle.std.proofs.Common.{◌≡◌, ◌++◌, drop, take, []}
use Rattle.facet_solver_types.specs.Named.{names_view, repeats_behind}
use Rattle.facet_solver_types.proofs.typing.named.add_many_repeats.Given as goal

-- all faults are those so far, and those of the rest behind these
abbrev pub invariant-loop-at : goal.invariant-loop-at
invariant-loop-at l =
    l.initial.faults.items ++ repeats_behind l.problem [] (names_view l.names)
    ≡ l.faults.items ++ repeats_behind l.problem (names_view (take l.at l.names))
    (names_view (drop l.at l.names))
