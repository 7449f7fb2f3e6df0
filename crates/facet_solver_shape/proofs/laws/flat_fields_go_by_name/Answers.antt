use Rattle.facet_solver_shape.proofs.Fields.{flat_alone, flat_by_name, flat_by_key}
use Rattle.facet_solver_shape.proofs.laws.flat_fields_go_by_name.Goals as goal

pub returns-clause-alone : goal.returns-clause-alone
returns-clause-alone c = flat_alone

pub returns-clause-by_name : goal.returns-clause-by_name
returns-clause-by_name c = flat_by_name

pub returns-clause-by_key : goal.returns-clause-by_key
returns-clause-by_key c = flat_by_key
