-- What is asked of every field of a catalogue, so that a root is taken alike whatever its walk
-- meets.
use Rattle.std.specs.Prelude.{◌&&◌, ◌<◌, ℕ, Bool, true, false, IsTrue, List, is_none, length, not}
use Rattle.std.specs.Prelude.{slice_get}
use Rattle.std.specs.List.{list_all}
use Rattle.std.specs.Option.{option_map_or}
use Rattle.facet_solver_shape.specs.declared.shape.Field.{Field}
use Rattle.facet_solver_shape.specs.declared.shape.Shape.{Shape}
use Rattle.facet_solver_shape.specs.declared.shape.ShapeKind.{ShapeKind}
use Rattle.facet_solver_shape.specs.declared.shape.ShapeKind.TheVariants.{Struct, Enum}
use Rattle.facet_solver_shape.specs.declared.shape.Variant.{Variant}
use Rattle.facet_solver_shape.specs.Catalogues.{Catalogue, kind_at}
use Rattle.facet_solver_shape.specs.Metadata.{is_metadata_container}
use Rattle.facet_solver_shape.specs.Representation.{Repr, flattened, externally_tagged}
use Rattle.facet_solver_shape.specs.Representation.{internally_tagged, adjacently_tagged}
use Rattle.facet_solver_shape.specs.Representation.{repr_of_shape}
use Rattle.facet_solver_shape.specs.Roles.{Role, alternatives, role_of}
use Rattle.facet_solver_agreement.specs.Alike.{has_named_content, is_named_struct}

-- whether a shape is a struct with named fields, no metadata container, and stands for no other
abbrev pub is_plain_struct : Shape → Bool
is_plain_struct s =
    is_named_struct s.kind && not (is_metadata_container s) && is_none s.inner && is_none s.proxy

-- whether the shape at an index is
abbrev pub is_plain_root : Catalogue → ℕ → Bool
is_plain_root shapes root = option_map_or is_plain_struct (slice_get shapes root) false

-- whether each of some variants has named content
abbrev pub all_have_named_content : Catalogue → List Variant → Bool
all_have_named_content shapes vs = list_all (has_named_content shapes) vs

-- whether an enum of a representation may be flattened: it is not adjacently tagged, and its
-- variants have named content, where that stands among other members
abbrev pub is_enum_alike : Catalogue → Repr → List Variant → Bool
is_enum_alike shapes flattened vs = all_have_named_content shapes vs
is_enum_alike shapes externally_tagged vs = true
is_enum_alike shapes (internally_tagged tag) vs = all_have_named_content shapes vs
is_enum_alike shapes (adjacently_tagged tag content) vs = false

-- whether a field of a role flattens no other enum
abbrev pub is_role_alike : Catalogue → Role → Bool
is_role_alike shapes (alternatives target s vs) = is_enum_alike shapes (repr_of_shape s) vs
is_role_alike shapes _ = true

-- whether a field does so
abbrev pub is_field_alike : Catalogue → Field → Bool
is_field_alike shapes f = is_role_alike shapes (role_of shapes f)

-- whether each of some fields does so
abbrev pub are_fields_alike : Catalogue → List Field → Bool
are_fields_alike shapes fs = list_all (is_field_alike shapes) fs

-- whether each field of some variants does so
abbrev pub are_variants_alike : Catalogue → List Variant → Bool
are_variants_alike shapes vs = list_all (λ v. are_fields_alike shapes v.fields.items) vs

-- whether each field of a struct, or of a variant of an enum, does so
abbrev pub is_kind_alike : Catalogue → ShapeKind → Bool
is_kind_alike shapes (Struct kind fields) = are_fields_alike shapes fields.items
is_kind_alike shapes (Enum variants) = are_variants_alike shapes variants.items
is_kind_alike shapes _ = true

-- whether each field of the shape at an index does so
abbrev pub is_shape_alike : Catalogue → ℕ → Bool
is_shape_alike shapes id = is_kind_alike shapes (kind_at shapes id)

-- each field of a catalogue does so
abbrev pub AreShapesAlike : Catalogue → Type 0
AreShapesAlike shapes = (id : ℕ) → id < length shapes → IsTrue (is_shape_alike shapes id)

-- the root is a plain struct, and each field of the catalogue does so
abbrev pub IsAlikeThroughout : Catalogue → ℕ → Type 0
IsAlikeThroughout shapes root = IsTrue (is_plain_root shapes root) × AreShapesAlike shapes
