use Rattle.std.proofs.Common.{◌∙◌, ap, map, refl}
use Rattle.std.specs.FinMap.{entries}
use Rattle.facet_solver_shape.specs.Fields.{entry_view}
use Rattle.facet_solver_shape.proofs.Fields.{entries_of_table}
use Rattle.facet_solver_shape.proofs.resolution.tables.field_map.FieldMap.first_named.Goals as goal

pub loop-info-init : goal.loop-info-init
loop-info-init c =
    let seen = c.into_iter-info-iterator.ensures.into_iter_gives.0 in
    (ap (map entry_view) seen ∙ entries_of_table c.self.inside.entries.entries c.self.invariant ∙ ap entries c.self.view_is, refl)
