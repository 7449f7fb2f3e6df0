use Rattle.facet_solver.proofs.Pairs.{both_exactly, leaves_both}
use Rattle.facet_solver.proofs.laws.shared_keys_leave_both_viable.Goals as goal

pub returns-clause-exactly : goal.returns-clause-exactly
returns-clause-exactly c = both_exactly

pub returns-clause-by_keys : goal.returns-clause-by_keys
returns-clause-by_keys c = leaves_both
