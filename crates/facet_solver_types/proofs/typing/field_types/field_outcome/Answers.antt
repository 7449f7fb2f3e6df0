use Rattle.facet_solver_types.specs.FieldTypes.{field_type}
use Rattle.facet_solver_types.specs.Mentions.{mention_view}
use Rattle.facet_solver_types.specs.Scopes.{scope_view}
use Rattle.facet_solver_types.specs.Understood.{field_view}
use Rattle.facet_solver_types.proofs.Settled.{settled_as}
use Rattle.facet_solver_types.proofs.typing.field_types.field_outcome.Goals as goal

pub returns : goal.returns
returns c =
    settled_as mention_view c.settled.result c.field_type.result
    (field_type (scope_view c.args.scope) (field_view c.args.field.now))
    c.settled.ensures c.field_type.ensures
