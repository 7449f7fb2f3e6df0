-- Structs that are one value with metadata beside it.
use Rattle.std.specs.Prelude.{◌&&◌, Bool, false, List, not}
use Rattle.std.specs.List.{list_any}
use Rattle.facet_solver_shape.specs.declared.shape.Field.{Field}
use Rattle.facet_solver_shape.specs.declared.shape.Shape.{Shape}
use Rattle.facet_solver_shape.specs.declared.shape.ShapeKind.{ShapeKind}
use Rattle.facet_solver_shape.specs.declared.shape.ShapeKind.TheVariants.{Struct}

-- whether one of the fields is no metadata
abbrev pub has_plain_field : List Field → Bool
has_plain_field fields = list_any (λ f. not f.metadata) fields

-- whether a shape of a kind that is marked as a metadata container is one: it has a field that is
-- no metadata
abbrev pub contains : Bool → ShapeKind → Bool
contains marked (Struct kind fields) = marked && has_plain_field fields.items
contains marked _ = false

-- whether a shape is a metadata container
abbrev pub is_metadata_container : Shape → Bool
is_metadata_container s = contains s.metadata_container s.kind
