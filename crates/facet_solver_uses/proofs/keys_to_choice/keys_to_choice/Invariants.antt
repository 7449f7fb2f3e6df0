use Rattle.std.proofs.Common.{◌≡◌, map, take}
use Rattle.facet_solver.specs.Keys.{key_of}
use Rattle.facet_solver.specs.solver.State.{new_solver}
use Rattle.facet_solver.specs.solver.Told.{see_keys}
use Rattle.facet_solver_uses.proofs.keys_to_choice.keys_to_choice.Given as goal

-- the keys so far were seen
abbrev pub invariant-loop-key : goal.invariant-loop-key
invariant-loop-key l = l.solver ≡ see_keys (map key_of (take l.key-index l.keys)) (new_solver l.schema)
