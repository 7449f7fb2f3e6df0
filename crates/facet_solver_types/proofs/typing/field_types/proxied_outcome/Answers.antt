use Rattle.std.proofs.Common.{map}
use Rattle.facet_solver_types.specs.FieldTypes.{proxied_type}
use Rattle.facet_solver_types.specs.Mentions.{mention_view}
use Rattle.facet_solver_types.specs.Scopes.{scope_view}
use Rattle.facet_solver_types.specs.Understood.{proxy_view}
use Rattle.facet_solver_types.proofs.Settled.{settled_as}
use Rattle.facet_solver_types.proofs.typing.field_types.proxied_outcome.Goals as goal

pub returns : goal.returns
returns c =
    settled_as mention_view c.settled.result c.proxied_type.result
    (proxied_type (scope_view c.args.scope) (proxy_view c.args.first.now)
    (map proxy_view c.args.others.now))
    c.settled.ensures c.proxied_type.ensures
