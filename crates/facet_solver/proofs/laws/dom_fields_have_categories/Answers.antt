use Rattle.facet_solver.proofs.FieldCategories.{dom_fields}
use Rattle.facet_solver.proofs.laws.dom_fields_have_categories.Goals as goal

pub returns : goal.returns
returns c = dom_fields
