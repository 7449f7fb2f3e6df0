use Rattle.facet_solver.proofs.FieldCategories.{flat_by_name}
use Rattle.facet_solver.proofs.laws.flat_fields_go_by_name.Goals as goal

pub returns : goal.returns
returns c = flat_by_name
