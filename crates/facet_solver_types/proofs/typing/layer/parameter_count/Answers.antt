use Rattle.std.proofs.Common.{sym}
use Rattle.std.proofs.lemmas.List.{length-map}
use Rattle.facet_solver_types.specs.Declarations.{parameter_view}
use Rattle.facet_solver_types.proofs.typing.layer.parameter_count.Goals as goal

pub returns : goal.returns
returns c = sym (length-map c.args.parameters.now parameter_view)
