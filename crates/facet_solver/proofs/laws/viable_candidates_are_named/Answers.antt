use Rattle.facet_solver.proofs.Told.{ends_with}
use Rattle.facet_solver.proofs.laws.viable_candidates_are_named.Goals as goal

pub returns : goal.returns
returns c = ends_with
