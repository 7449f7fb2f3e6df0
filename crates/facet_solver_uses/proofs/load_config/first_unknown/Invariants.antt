use Rattle.std.proofs.Common.{map, take}
use Rattle.facet_solver.specs.Keys.{key_of}
use Rattle.facet_solver_uses.specs.Taken.{AreTaken}
use Rattle.facet_solver_uses.proofs.load_config.first_unknown.Given as goal

-- the keys so far are taken
abbrev pub invariant-loop-key : goal.invariant-loop-key
invariant-loop-key l = AreTaken l.resolution (map key_of (take l.key-index l.keys))
