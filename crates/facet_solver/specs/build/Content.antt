-- The content of a variant, which goes by effective shapes.
use Rattle.std.specs.Prelude.{ℕ, Bool, List, Option, Some, None, if◌then◌else◌, [], ◌∷◌, string_bytes, codes, ◌≡◌, ◌<◌, IsSome}
use Rattle.facet_solver_shape.specs.declared.shape.ShapeKind.{ShapeKind}
use Rattle.facet_solver_shape.specs.declared.shape.ShapeKind.TheVariants.{Struct}
use Rattle.facet_solver_shape.specs.declared.shape.Field.{Field}
use Rattle.facet_solver_shape.specs.declared.shape.Variant.{Variant}
use Rattle.facet_solver_shape.specs.Names.{Name}
use Rattle.facet_solver_shape.specs.Paths.{Segment, by_field}
use Rattle.facet_solver_shape.specs.Catalogues.{FieldsBelow}
use Rattle.facet_solver_shape.specs.EffectiveShapes.{effective}
use Rattle.facet_solver.specs.build.Build.{Catalogue, kind_at}
use Rattle.std.specs.Str.{bytes_eq}

-- the fields of a struct
abbrev pub struct_fields : ShapeKind → Option (List Field)
struct_fields (Struct kind fields) = Some fields.items
struct_fields _ = None

-- whether a name is `0`, as that of a newtype's only field is
abbrev pub is_zero : Name → Bool
is_zero name = bytes_eq name (codes "0")

-- the fields of the struct that is the effective shape of a single field `0`
abbrev pub newtype_fields : Catalogue → List Field → Option (List Field)
newtype_fields cat [] = None
newtype_fields cat (f ∷ []) =
    if is_zero (string_bytes f.name) then struct_fields (kind_at cat (effective cat f.shape))
    else None
newtype_fields cat (f ∷ g ∷ fs) = None

-- the effective shape of a single field
abbrev pub effective_of_only : Catalogue → List Field → Option ℕ
effective_of_only cat [] = None
effective_of_only cat (f ∷ []) = Some (effective cat f.shape)
effective_of_only cat (f ∷ g ∷ fs) = None

-- fields, and what their path has more than the variant's
pub record Content : Type 0 where
  pub fields : List Field
  pub path : List Segment

-- the fields of a newtype's struct behind the field `0`, or else the variant's own
abbrev pub content_or : Variant → Option (List Field) → Content
content_or v None = record { fields = v.fields.items; path = [] }
content_or v (Some fs) = record { fields = fs; path = by_field (codes "0") ∷ [] }

-- the content of a variant
abbrev pub content_of : Catalogue → Variant → Content
content_of cat v = content_or v (newtype_fields cat v.fields.items)

-- fields are a single field `0`, and the struct behind it stands at an index, which is earlier than
-- what they name
pub record IsNewtypeOf (cat : Catalogue) (fs : List Field) (id : ℕ) : Type 0 where
  pub is_effective : effective_of_only cat fs ≡ Some id
  pub is_struct : IsSome (struct_fields (kind_at cat id))
  pub same_fields : newtype_fields cat fs ≡ struct_fields (kind_at cat id)
  pub earlier : (limit : ℕ) → FieldsBelow limit fs → id < limit
