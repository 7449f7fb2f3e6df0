use Rattle.std.proofs.Common.{All, take}
use Rattle.facet_solver_checker.specs.Apartness.{IsNoUnit}
use Rattle.facet_solver_checker.proofs.texts.reads_no_unit.Given as goal

-- the units before this one are named by no text that the end reads
abbrev pub invariant-loop-name : goal.invariant-loop-name
invariant-loop-name l = All (IsNoUnit l.end) (take l.name-index l.names)
