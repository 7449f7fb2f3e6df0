use Rattle.std.proofs.Common.{All, take}
use Rattle.std.specs.List.{Contains}
use Rattle.facet_solver_checker.proofs.atoms.Atoms.add_all.Given as goal

-- the atoms so far are among them
abbrev pub invariant-loop-atom : goal.invariant-loop-atom
invariant-loop-atom l =
    record {
      kept : All (Contains l.self.each.items) l.fn.self.each.items;
      added : All (Contains l.self.each.items) (take l.atom-index l.atoms);
    }
