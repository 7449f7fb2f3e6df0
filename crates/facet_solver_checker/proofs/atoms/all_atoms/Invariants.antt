use Rattle.std.proofs.Common.{◌≡◌, length}
use Rattle.facet_solver_checker.specs.Atoms.{HaveAtoms}
use Rattle.facet_solver_checker.proofs.atoms.all_atoms.Given as goal

-- the atoms of each target before this one
abbrev pub invariant-loop-target : goal.invariant-loop-target
invariant-loop-target l =
    record {
      len : length l.all.items ≡ l.target-index;
      atoms : HaveAtoms l.plan l.all.items;
    }
