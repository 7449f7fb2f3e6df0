use Rattle.std.specs.FinMap as finite
use Rattle.facet_solver_shape.specs.Fields.{matches}
use Rattle.facet_solver.proofs.Pairs.{found_any}
use Rattle.facet_solver.proofs.laws.keys_mean_fields.Goals as goal

pub returns : goal.returns
returns c key r = found_any (matches key) (finite.values r.fields)
