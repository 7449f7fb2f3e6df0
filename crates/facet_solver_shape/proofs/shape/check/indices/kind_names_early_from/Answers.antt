use Rattle.facet_solver_shape.proofs.Lists.{list_any-map}
use Rattle.facet_solver_shape.proofs.Catalogues.{list_any-fields}
use Rattle.facet_solver_shape.proofs.shape.check.indices.kind_names_early_from.Goals as goal

pub returns-in-Struct : goal.returns-in-Struct
returns-in-Struct c = rw (c.in-Struct.is, list_any-map, ← c.deref.ensures.value) c.fields_name_from.ensures

pub returns-in-Enum : goal.returns-in-Enum
returns-in-Enum c = rw (c.in-Enum.is, list_any-fields, ← c.deref-in-Enum.ensures.value) c.variants_name_from.ensures
