use Rattle.std.proofs.Common.{sym, ◌∙◌, ap}
use Rattle.std.specs.FinMap.{get}
use Rattle.facet_solver_shape.specs.Keys.{key_of}
use Rattle.facet_solver_shape.proofs.Keys.{key_cmp_total, key_cmp_same, key_agrees}
use Rattle.facet_solver_shape.proofs.Viewed.{get_viewed}
use Rattle.facet_solver_shape.proofs.resolution.tables.field_map.FieldMap.get.Goals as goal

pub returns : goal.returns
returns c =
    let found = get_viewed key_cmp_total key_cmp_same key_of key_agrees c.args.key.now c.self.inside.entries.entries in
    c.get.ensures.value ∙ sym found ∙ ap (λ m. get m (key_of c.args.key.now)) c.self.view_is
