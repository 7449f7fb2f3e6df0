use Rattle.std.proofs.Common.{All, take}
use Rattle.std.specs.List.{Contains}
use Rattle.facet_solver_checker.specs.Atoms.{HasOnward}
use Rattle.facet_solver_checker.proofs.atoms.Atoms.add_alternatives.Given as goal

-- those of what the alternatives before this one ask are among them
abbrev pub invariant-loop-alternative : goal.invariant-loop-alternative
invariant-loop-alternative l =
    record {
      kept : All (Contains l.self.each.items) l.fn.self.each.items;
      added : All (HasOnward l.lower l.self.each.items) (take l.alternative-index l.alone);
    }
