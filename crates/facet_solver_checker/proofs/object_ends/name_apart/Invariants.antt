use Rattle.std.proofs.Common.{All, take}
use Rattle.facet_solver_checker.specs.Apartness.{NameIsApart}
use Rattle.facet_solver_checker.proofs.object_ends.name_apart.Given as goal

-- the variants before this one are apart from the first
abbrev pub invariant-loop-other : goal.invariant-loop-other
invariant-loop-other l = All (NameIsApart l.apart l.name) (take l.other-index l.others)
