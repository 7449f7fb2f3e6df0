use Rattle.facet_solver.proofs.Told.{one_ends, one_viable}
use Rattle.facet_solver.proofs.laws.told_resolutions_are_found.Goals as goal

pub returns-clause-viable : goal.returns-clause-viable
returns-clause-viable c = one_viable

pub returns-clause-ends : goal.returns-clause-ends
returns-clause-ends c = one_ends
