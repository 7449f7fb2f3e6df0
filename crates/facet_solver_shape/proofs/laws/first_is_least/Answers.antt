use Rattle.std.specs.FinMap.{entries}
use Rattle.std.proofs.lemmas.List.Elements.{recursion_from_All}
use Rattle.facet_solver_shape.specs.Fields.{IsStored}
use Rattle.facet_solver_shape.proofs.Fields.{least_of_map}
use Rattle.facet_solver_shape.proofs.laws.first_is_least.Goals as goal

pub returns : goal.returns
returns c = λ fields test stored. least_of_map fields test (recursion_from_All IsStored (entries fields) stored)
