-- The types that a reader and a solver take alike.
use Rattle.std.specs.Prelude.{◌≡◌, ℕ, All, Bool, true, false, IsTrue, List, [], ◌∷◌, Some}
use Rattle.std.specs.Prelude.{None, slice_get, Vec}
use Rattle.std.specs.List.{list_all}
use Rattle.std.specs.Option.{option_map_or}
use Rattle.std.specs.declared.alloc.Global.{Global}
use Rattle.facet_solver_shape.specs.declared.shape.Field.{Field}
use Rattle.facet_solver_shape.specs.declared.shape.Shape.{Shape}
use Rattle.facet_solver_shape.specs.declared.shape.ShapeKind.{ShapeKind}
use Rattle.facet_solver_shape.specs.declared.shape.ShapeKind.TheVariants.{Struct}
use Rattle.facet_solver_shape.specs.declared.shape.StructKind.{StructKind}
use Rattle.facet_solver_shape.specs.declared.shape.StructKind.TheVariants.{Struct as ByName}
use Rattle.facet_solver_shape.specs.declared.shape.StructKind.TheVariants.{Tuple, TupleStruct}
use Rattle.facet_solver_shape.specs.declared.shape.Variant.{Variant}
use Rattle.facet_solver_shape.specs.Catalogues.{Catalogue, kind_at}
use Rattle.facet_solver_shape.specs.EffectiveShapes.{effective}
use Rattle.facet_solver_shape.specs.Metadata.{is_metadata_container}
use Rattle.facet_solver_shape.specs.Representation.{Repr, flattened, internally_tagged}
use Rattle.facet_solver_shape.specs.Representation.{adjacently_tagged, repr_of_shape}
use Rattle.facet_solver_shape.specs.Roles.{Role, alternatives, role_of}
use Rattle.facet_solver_reader.specs.Content.{newtype_shape}
use Rattle.facet_solver_agreement.specs.Met.{AreMet}

-- whether a kind is a struct with named fields
abbrev pub is_named_struct : ShapeKind → Bool
is_named_struct (Struct ByName fields) = true
is_named_struct _ = false

-- whether the fields of a variant have names, or there are none
abbrev pub are_named : StructKind → List Field → Bool
are_named kind [] = true
are_named Tuple (f ∷ fs) = false
are_named TupleStruct (f ∷ fs) = false
are_named kind (f ∷ fs) = true

-- whether a shape comes, by `inner` and `proxy` alone, to a struct with named fields
abbrev pub stands_for_named_struct : Catalogue → ℕ → Bool
stands_for_named_struct shapes id = is_named_struct (kind_at shapes (effective shapes id))

-- whether a variant has no fields, fields with names, or a single field `0` that stands for a
-- struct with named fields. So that field comes to no enum, map or dynamic value, to nothing that
-- reads no object, and to no struct behind a pointer
abbrev pub has_named_content : Catalogue → Variant → Bool
has_named_content shapes v =
    option_map_or (stands_for_named_struct shapes) (newtype_shape v.fields.items)
    (are_named v.kind v.fields.items)

-- whether the variants of an enum of a representation have named content, where that stands among
-- the members around the enum
abbrev pub have_named_content : Catalogue → Repr → List Variant → Bool
have_named_content shapes flattened vs = list_all (has_named_content shapes) vs
have_named_content shapes (internally_tagged tag) vs = list_all (has_named_content shapes) vs
have_named_content shapes _ vs = true

-- whether the variants of the enum that a field of a role flattens have named content
abbrev pub flattens_named : Catalogue → Role → Bool
flattens_named shapes (alternatives target s vs) = have_named_content shapes (repr_of_shape s) vs
flattens_named shapes _ = true

-- whether an enum of a representation is adjacently tagged
abbrev pub is_adjacent : Repr → Bool
is_adjacent (adjacently_tagged tag content) = true
is_adjacent _ = false

-- whether a field of a role flattens an adjacently tagged enum
abbrev pub flattens_adjacent : Role → Bool
flattens_adjacent (alternatives target s vs) = is_adjacent (repr_of_shape s)
flattens_adjacent _ = false

-- a struct with named fields, which is no metadata container and stands for no other shape
pub record IsPlainRoot (shapes : Catalogue) (root : ℕ) : Type 0 where
  pub shape : Shape
  pub fields : Vec Field Global
  pub is_there : slice_get shapes root ≡ Some shape
  pub is_struct : shape.kind ≡ Struct ByName fields
  pub no_container : is_metadata_container shape ≡ false
  pub no_inner : shape.inner ≡ None
  pub no_proxy : shape.proxy ≡ None

-- a root that a reader and a schema take alike: of the enums that its walk meets, the variants
-- whose content stands among other members have named content
pub record IsTakenAlike (shapes : Catalogue) (root : ℕ) : Type 0 where
  pub plain : IsPlainRoot shapes root
  pub named : (fs : List Field) → AreMet shapes plain.fields.items fs
      → All (λ f. IsTrue (flattens_named shapes (role_of shapes f))) fs

-- moreover, of the enums that its walk meets, none is adjacently tagged
pub record IsKeptAlike (shapes : Catalogue) (root : ℕ) : Type 0 where
  pub taken : IsTakenAlike shapes root
  pub no_adjacent : (fs : List Field) → AreMet shapes taken.plain.fields.items fs
      → All (λ f. flattens_adjacent (role_of shapes f) ≡ false) fs
