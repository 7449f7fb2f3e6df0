use Rattle.std.proofs.Common.{All, take}
use Rattle.facet_solver_checker.specs.Touched.{BearsOutBranches}
use Rattle.facet_solver_checker.proofs.touched.Touched.parts_bear_out.Given as goal

-- those before this one bear out
abbrev pub invariant-loop-part : goal.invariant-loop-part
invariant-loop-part l =
    All (BearsOutBranches l.self.flags.items) (take l.part-index l.parts)
