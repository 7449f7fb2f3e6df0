use Rattle.std.proofs.Common.{rules}
use Rattle.std.proofs.lemmas.Map.Made.{map_same_pairs}
use Rattle.facet_solver_shape.specs.Fields.{as_optional}
use Rattle.facet_solver_shape.proofs.resolution.tables.field_map.make_optional.Goals as goal

pub returns : goal.returns
returns c = map_same_pairs _ as_optional _ (λ k v b w f' t. search rules) _ _ c.retain.ensures.filtered
