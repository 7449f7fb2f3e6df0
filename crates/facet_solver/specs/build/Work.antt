-- How much there is to do below fields that are gone through by a stack: what each step lowers.
-- Only private contracts and proofs speak of it.
use Rattle.facet_solver.specs.build.Build.{Build, Catalogue}
use Rattle.std.specs.Prelude.{ℕ, zero, suc, ◌+◌, List, [], ◌∷◌, length, sum_by}
use Rattle.facet_solver_shape.specs.declared.shape.Field.{Field}
use Rattle.facet_solver_shape.specs.declared.shape.Variant.{Variant}
use Rattle.facet_solver.specs.build.Content.{content_of}
use Rattle.facet_solver_shape.specs.Roles.{Role, regular, block, alternatives, catch_all, leaf, role_of}

-- how much there is to do for a list of fields
abbrev pub Work : Type 0
Work = List Field → ℕ

-- for one variant: its index, and its content
abbrev pub work_of_variant : Work → Catalogue → Variant → ℕ
work_of_variant below cat v = 2 + below (content_of cat v).fields

-- for one field by its role: its presence, and what is flattened there
abbrev pub work_of_role : Work → Build → Role → ℕ
work_of_role below build regular = 1
work_of_role below build (block target fs) = 2 + below fs
work_of_role below build (alternatives target s vs) =
    1 + sum_by (work_of_variant below build.catalogue) vs
work_of_role below build (catch_all target) = 1
work_of_role below build (leaf target) = 1

-- for fields: one step more for each
unfoldable pub work_of_fields_step : Work → Build → Work
work_of_fields_step below build [] = 0
work_of_fields_step below build (f ∷ fs) =
    1 + work_of_role below build (role_of build.catalogue f) + work_of_fields_step below build fs

-- for fields, down to n levels of what is flattened
unfoldable pub work_within : ℕ → Build → Work
work_within zero build fs = 0
work_within (suc n) build fs = work_of_fields_step (work_within n build) build fs

-- for fields of a checked catalogue, of which no level lies deeper than its length
unfoldable pub work_of_fields : Build → Work
work_of_fields build = work_within (suc (length build.catalogue)) build

-- for one field
abbrev pub work_of_field : Build → Field → ℕ
work_of_field build f = work_of_role (work_of_fields build) build (role_of build.catalogue f)

-- for variants: the sum
abbrev pub work_of_variants : Build → List Variant → ℕ
work_of_variants build vs = sum_by (work_of_variant (work_of_fields build) build.catalogue) vs
