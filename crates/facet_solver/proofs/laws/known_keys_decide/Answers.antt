use Rattle.facet_solver.proofs.Told.{any_order, known_left, one_left}
use Rattle.facet_solver.proofs.laws.known_keys_decide.Goals as goal

pub returns-clause-left : goal.returns-clause-left
returns-clause-left c = known_left

pub returns-clause-among : goal.returns-clause-among
returns-clause-among c = one_left

pub returns-clause-in_any_order : goal.returns-clause-in_any_order
returns-clause-in_any_order c = any_order
