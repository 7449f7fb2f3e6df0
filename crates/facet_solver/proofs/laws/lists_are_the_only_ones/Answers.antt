use Rattle.facet_solver.proofs.Choice.{one_list, one_enumeration}
use Rattle.facet_solver.proofs.laws.lists_are_the_only_ones.Goals as goal

pub returns-clause-choices : goal.returns-clause-choices
returns-clause-choices c = one_list

pub returns-clause-resolutions : goal.returns-clause-resolutions
returns-clause-resolutions c = one_enumeration
