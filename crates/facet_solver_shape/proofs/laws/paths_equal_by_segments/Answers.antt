use Rattle.facet_solver_shape.proofs.Paths.{path_decides}
use Rattle.facet_solver_shape.proofs.laws.paths_equal_by_segments.Goals as goal

pub returns : goal.returns
returns c = path_decides
