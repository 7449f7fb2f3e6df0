use Rattle.std.proofs.Common.{◌≡◌}
use Rattle.facet_solver_shape.specs.Names.{names_of}
use Rattle.facet_solver_shape.specs.Resolved.{names_view}
use Rattle.facet_solver_shape.proofs.Resolved.{IsFilling}
use Rattle.facet_solver_shape.proofs.resolution.tables.name_set.NameSet.put_all.Given as goal

abbrev pub invariant-loop-name : goal.invariant-loop-name
invariant-loop-name l =
    (names_view l.initial.name-iterator ≡ l.other) × IsFilling l.initial.self l.self (names_of l.initial.name-iterator) (names_of l.name-iterator)
