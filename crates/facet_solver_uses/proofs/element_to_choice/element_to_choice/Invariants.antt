use Rattle.std.proofs.Common.{◌≡◌, map, take}
use Rattle.facet_solver.specs.solver.State.{new_solver}
use Rattle.facet_solver.specs.solver.Told.{see_keys}
use Rattle.facet_solver_uses.specs.ElementToChoice.{key_of_part}
use Rattle.facet_solver_uses.proofs.element_to_choice.element_to_choice.Given as goal

-- the parts so far were seen
abbrev pub invariant-loop-part : goal.invariant-loop-part
invariant-loop-part l = l.solver ≡ see_keys (map key_of_part (take l.part-index l.parts)) (new_solver l.schema)
