-- The choices as a list, by parts: a product over fields, a sum over variants. No public clause
-- speaks of it: those say what a list of all choices is.
use Rattle.facet_solver.specs.build.Build.{Build, repr_for, Catalogue}
use Rattle.std.specs.Prelude.{ℕ, zero, suc, List, [], ◌∷◌, ◌++◌, map, flat_map, Bool, true, false, if◌then◌else◌, Option, Some, None, slice_get, length}
use Rattle.facet_solver_shape.specs.declared.shape.Shape.{Shape}
use Rattle.facet_solver_shape.specs.declared.shape.Field.{Field}
use Rattle.facet_solver_shape.specs.declared.shape.Variant.{Variant}
use Rattle.facet_solver_shape.specs.declared.shape.ShapeKind.{ShapeKind}
use Rattle.facet_solver_shape.specs.declared.shape.ShapeKind.TheVariants.{Struct, Enum}
use Rattle.facet_solver_shape.specs.Representation.{is_walked}
use Rattle.facet_solver.specs.build.Content.{content_of}
use Rattle.facet_solver_shape.specs.Roles.{Role, regular, block, alternatives, catch_all, leaf, role_of, may_be_absent}

-- lists of choices
abbrev pub Choices : Type 0
Choices = List (List ℕ)

-- the one choice where there is nothing to choose
abbrev pub no_choice : Choices
no_choice = [] ∷ []

-- each of the first before each of the second
unfoldable pub product : Choices → Choices → Choices
product cs ds = flat_map (λ c. map (λ d. c ++ d) ds) cs

-- each variant's index, from k on, before its own choices
unfoldable pub indexed : ℕ → (Variant → Choices) → List Variant → Choices
indexed k choices [] = []
indexed k choices (v ∷ vs) = map (λ c. k ∷ c) (choices v) ++ indexed (suc k) choices vs

-- those of a variant, whose content is walked or not
abbrev pub choices_of_variant : (List Field → Choices) → Catalogue → Bool → Variant → Choices
choices_of_variant below cat walked v =
    if walked then below (content_of cat v).fields else no_choice

-- those of a field that is present, by its role
abbrev pub choices_of_present : (List Field → Choices) → Build → Role → Choices
choices_of_present below build regular = no_choice
choices_of_present below build (block target fs) = below fs
choices_of_present below build (alternatives target s vs) =
    indexed 0 (choices_of_variant below build.catalogue (is_walked (repr_for build s))) vs
choices_of_present below build (catch_all target) = no_choice
choices_of_present below build (leaf target) = no_choice

-- those of what may be absent: 0 alone where it is, and 1 before each where it is present
abbrev pub choices_of_optional : Bool → Choices → Choices
choices_of_optional false cs = cs
choices_of_optional true cs = (0 ∷ []) ∷ map (λ c. 1 ∷ c) cs

-- those of a field by its role
abbrev pub choices_of_role : (List Field → Choices) → Build → Role → Choices
choices_of_role below build role =
    choices_of_optional (may_be_absent role) (choices_of_present below build role)

-- those of fields
unfoldable pub choices_of_fields_step : (List Field → Choices) → Build → List Field → Choices
choices_of_fields_step below build [] = no_choice
choices_of_fields_step below build (f ∷ fs) =
    product (choices_of_role below build (role_of build.catalogue f))
    (choices_of_fields_step below build fs)

-- those of fields down to n levels
unfoldable pub choices_within : ℕ → Build → List Field → Choices
choices_within zero build fs = []
choices_within (suc n) build fs = choices_of_fields_step (choices_within n build) build fs

-- those below fields of a checked catalogue
unfoldable pub choices_of_fields : Build → List Field → Choices
choices_of_fields build = choices_within (suc (length build.catalogue)) build

-- those of a root by its kind
abbrev pub choices_of_root_kind : Build → ShapeKind → Choices
choices_of_root_kind build (Struct kind fields) = choices_of_fields build fields.items
choices_of_root_kind build (Enum variants) =
    indexed 0 (choices_of_variant (choices_of_fields build) build.catalogue true) variants.items
choices_of_root_kind build _ = no_choice

-- those of a root that may be absent
abbrev pub choices_of_root_shape : Build → Option Shape → Choices
choices_of_root_shape build None = []
choices_of_root_shape build (Some s) = choices_of_root_kind build s.kind

-- those of a root
unfoldable pub choices_of_root : Build → ℕ → Choices
choices_of_root build root = choices_of_root_shape build (slice_get build.catalogue root)

-- those at one field
unfoldable pub choices_of_field : Build → Field → Choices
choices_of_field build f =
    choices_of_role (choices_of_fields build) build (role_of build.catalogue f)

-- those among variants whose contents are walked or not
unfoldable pub choices_of_variants : Build → Bool → List Variant → Choices
choices_of_variants build walked vs =
    indexed 0 (choices_of_variant (choices_of_fields build) build.catalogue walked) vs
