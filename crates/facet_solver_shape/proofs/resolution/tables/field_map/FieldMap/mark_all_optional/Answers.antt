use Rattle.std.proofs.Common.{◌∙◌, ap, subst, sym}
use Rattle.std.specs.FinMap.{get}
use Rattle.std.specs.Option.{option_map}
use Rattle.facet_solver_shape.specs.Fields.{IsFieldTable, as_optional, field_entries_view}
use Rattle.facet_solver_shape.proofs.Fields.{optional_table, get_optional}
use Rattle.facet_solver_shape.proofs.resolution.tables.field_map.FieldMap.mark_all_optional.Goals as goal

pub invariant_of-self : goal.invariant_of-self
invariant_of-self c = subst IsFieldTable (sym c.make_optional.ensures) (optional_table _ c.self.invariant)

pub returns : goal.returns
returns c = λ k.
    ap (λ es. get (field_entries_view es) k) c.make_optional.ensures
    ∙ get_optional k c.self.inside.entries.entries
    ∙ ap (λ m. option_map as_optional (get m k)) c.self.view_is
