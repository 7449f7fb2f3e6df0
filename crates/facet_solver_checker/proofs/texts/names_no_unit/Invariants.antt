use Rattle.std.proofs.Common.{All, take}
use Rattle.facet_solver_reader.specs.declared.plan.PlannedName.{PlannedName}
use Rattle.facet_solver_checker.specs.Atoms.{NamesUnit}
use Rattle.facet_solver_checker.proofs.texts.names_no_unit.Given as goal

-- no unit before this one has the name
abbrev pub invariant-loop-name : goal.invariant-loop-name
invariant-loop-name l =
    All (λ (p : PlannedName). NamesUnit l.word p → ⊥) (take l.name-index l.names)
