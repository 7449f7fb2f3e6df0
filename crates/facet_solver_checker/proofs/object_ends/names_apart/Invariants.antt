use Rattle.std.proofs.Common.{take}
use Rattle.facet_solver_checker.specs.Apartness.{NamesApart}
use Rattle.facet_solver_checker.proofs.object_ends.names_apart.Given as goal

-- the variants before this one are apart from the others
abbrev pub invariant-loop-name : goal.invariant-loop-name
invariant-loop-name l = NamesApart l.apart (take l.name-index l.first) l.second
