use Rattle.facet_solver.proofs.Told.{accepted_left}
use Rattle.facet_solver.proofs.laws.accepted_keys_decide.Goals as goal

pub returns : goal.returns
returns c = accepted_left
