use Rattle.facet_solver.proofs.Choice.{choices-counted}
use Rattle.facet_solver.proofs.laws.all_choices_are_counted.Goals as goal

pub returns : goal.returns
returns c = choices-counted
