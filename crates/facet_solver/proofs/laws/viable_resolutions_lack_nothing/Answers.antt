use Rattle.std.specs.FinMap as finite
use Rattle.facet_solver.specs.solver.Failure.{is_met}
use Rattle.facet_solver.proofs.ByName.{all_passed, none_left}
use Rattle.facet_solver.proofs.laws.viable_resolutions_lack_nothing.Goals as goal

pub returns : goal.returns
returns c = λ seen r. (none_left (is_met seen) (finite.values r.fields), all_passed (is_met seen) (finite.values r.fields))
