use Rattle.facet_solver.proofs.CategoryNames.{names_left}
use Rattle.facet_solver.proofs.NameSets.{Fills, in_list}
use Rattle.facet_solver.proofs.solver.report.seen.names_for.Given as goal

abbrev pub invariant-loop-key : goal.invariant-loop-key
invariant-loop-key l =
    Fills l.names.keys (names_left l.category l.key-iterator) (in_list (names_left l.category l.seen.keys))
