use Rattle.facet_solver.proofs.Told.{choice_ends}
use Rattle.facet_solver.proofs.laws.told_choices_are_found.Goals as goal

pub returns : goal.returns
returns c = choice_ends
