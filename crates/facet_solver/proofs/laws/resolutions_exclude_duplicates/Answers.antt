use Rattle.facet_solver.proofs.Choice.{no_duplicates}
use Rattle.facet_solver.proofs.laws.resolutions_exclude_duplicates.Goals as goal

pub returns : goal.returns
returns c = no_duplicates
