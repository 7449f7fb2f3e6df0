use Rattle.facet_solver.proofs.Choice.{no_choice-begins}
use Rattle.facet_solver.proofs.laws.no_choice_begins_another.Goals as goal

pub returns : goal.returns
returns c = no_choice-begins
