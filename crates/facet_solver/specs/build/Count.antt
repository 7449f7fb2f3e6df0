-- The number of choices, by cases on the shapes alone.
use Rattle.facet_solver.specs.build.Build.{Build, build_with, repr_for, Catalogue}
use Rattle.std.specs.Prelude.{ℕ, zero, suc, ◌*◌, List, [], ◌∷◌, Bool, true, false, if◌then◌else◌, Option, Some, None, slice_get, length, sum_by, ◌≡◌, ◌^◌, nat_lt}
use Rattle.facet_solver_shape.specs.declared.shape.Shape.{Shape}
use Rattle.facet_solver_shape.specs.declared.shape.Field.{Field}
use Rattle.facet_solver_shape.specs.declared.shape.Variant.{Variant}
use Rattle.facet_solver_shape.specs.declared.shape.ShapeKind.{ShapeKind}
use Rattle.facet_solver_shape.specs.declared.shape.ShapeKind.TheVariants.{Struct, Enum}
use Rattle.facet_solver_shape.specs.Representation.{is_walked, Repr}
use Rattle.facet_solver.specs.build.Content.{content_of}
use Rattle.facet_solver_shape.specs.Roles.{Role, regular, block, alternatives, catch_all, leaf, role_of, may_be_absent}
use Rattle.facet_solver.specs.declared.build.format.Format.{Format}

-- how the choices below fields are counted
abbrev pub Count : Type 0
Count = List Field → ℕ

-- one variant: its content's choices where that is walked, else one
abbrev pub count_variant : Count → Catalogue → Bool → Variant → ℕ
count_variant below cat walked v = if walked then below (content_of cat v).fields else 1

-- one field that is present, by its role: an enum is the sum over its variants, and what takes no
-- index counts one
abbrev pub count_present : Count → Build → Role → ℕ
count_present below build (block target fs) = below fs
count_present below build (alternatives target s vs) =
    sum_by (count_variant below build.catalogue (is_walked (repr_for build s))) vs
count_present below build regular = 1
count_present below build (catch_all target) = 1
count_present below build (leaf target) = 1

-- what may be absent has one choice more
abbrev pub count_optional : Bool → ℕ → ℕ
count_optional false n = n
count_optional true n = suc n

-- one field, by its role
abbrev pub count_role : Count → Build → Role → ℕ
count_role below build role = count_optional (may_be_absent role) (count_present below build role)

-- fields: the product
unfoldable pub count_fields_step : Count → Build → Count
count_fields_step below build [] = 1
count_fields_step below build (f ∷ fs) =
    count_role below build (role_of build.catalogue f) * count_fields_step below build fs

-- fields, down to n levels of what is flattened
unfoldable pub count_within : ℕ → Build → Count
count_within zero build fs = 0
count_within (suc n) build fs = count_fields_step (count_within n build) build fs

-- fields of a checked catalogue, of which no level lies deeper than its length
unfoldable pub count_fields : Build → Count
count_fields build = count_within (suc (length build.catalogue)) build

-- one field
abbrev pub count_field : Build → Field → ℕ
count_field build f = count_role (count_fields build) build (role_of build.catalogue f)

-- the content of a variant
abbrev pub count_content : Build → Variant → ℕ
count_content build v = count_fields build (content_of build.catalogue v).fields

-- variants whose contents are walked or not: the sum
abbrev pub count_variants : Build → Bool → List Variant → ℕ
count_variants build walked vs =
    sum_by (count_variant (count_fields build) build.catalogue walked) vs

-- a shape by its kind, the contents of whose variants are walked or not
abbrev pub count_kind : Build → Bool → ShapeKind → ℕ
count_kind build walked (Struct kind fields) = count_fields build fields.items
count_kind build walked (Enum variants) = count_variants build walked variants.items
count_kind build walked _ = 1

-- a flattened field whose target is the shape
abbrev pub count_shape : Build → Shape → ℕ
count_shape build s = count_kind build (is_walked (repr_for build s)) s.kind

-- a root that may be absent: the contents of an enum's variants are walked, whatever its
-- representation
abbrev pub count_of_shape : Build → Option Shape → ℕ
count_of_shape build None = 0
count_of_shape build (Some s) = count_kind build true s.kind

-- the number of choices of a root
unfoldable pub count_of_root : Build → ℕ → ℕ
count_of_root build root = count_of_shape build (slice_get build.catalogue root)

-- a number where it is below 2^64
abbrev pub below_2_64 : ℕ → Option ℕ
below_2_64 n = if nat_lt n (2 ^ 64) then Some n else None

-- the number of choices of a root where it is below 2^64, whatever the kind of document
abbrev pub IsCountOf : Catalogue → ℕ → Option Repr → Option ℕ → Type 0
IsCountOf cat root representation answer =
    (format : Format)
    → answer ≡ below_2_64 (count_of_root (build_with cat representation format) root)
