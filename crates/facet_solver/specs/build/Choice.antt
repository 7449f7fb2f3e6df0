-- The choices of a root, their order, and what each resolves to.
use Rattle.facet_solver.specs.build.Build.{Build}
use Rattle.std.specs.Prelude.{◌≡◌, ℕ, ◌<◌, List, [], Some, Contains, slice_get, fold, ⊤, None}
use Rattle.facet_solver_shape.specs.Names.{Name}
use Rattle.facet_solver_shape.specs.Fields.{FieldView, key_of_field}
use Rattle.facet_solver_shape.specs.Resolved.{Resolved, nothing, with_field, with_selection, with_catch_all}
use Rattle.facet_solver.specs.build.Nested.{with_key_paths}
use Rattle.facet_solver.specs.build.Emissions.{Emission, a_field, some_key_paths, a_selection, a_catch_all}
use Rattle.facet_solver.specs.build.Walk.{walk_root}
use Rattle.facet_solver_shape.specs.declared.resolution.error.SchemaError.{SchemaError}
use Rattle.facet_solver_shape.specs.declared.resolution.error.SchemaError.TheVariants.{DuplicateField, OutOfMemory}
use Rattle.std.specs.FinMap as map
use Rattle.facet_solver_shape.specs.Keys.{Key}
use Rattle.std.specs.Cmp.Lexicographic.{slice_cmp}
use Rattle.std.specs.Ordering.{nat_cmp}
use Rattle.std.specs.List.{AllZip}
use Rattle.std.specs.List.Sorted.{IsStrictlySortedBy}
use Rattle.facet_solver.specs.build.Place.{Path}

-- the walk of the root uses the indices up exactly, and emits these
abbrev pub Emits : Build → ℕ → List ℕ → List Emission → Type 0
Emits build root choice es = walk_root build root choice ≡ Some (es, [])

-- a choice: indices that the walk of the root uses up exactly
abbrev pub IsChoice : Build → ℕ → List ℕ → Type 0
IsChoice build root choice = (es : List Emission) × Emits build root choice es

-- all choices, each once and in lexicographic order
pub record ListsChoices (build : Build) (root : ℕ) (choices : List (List ℕ)) : Type 0 where
  pub each_is : (c : List ℕ) → Contains choices c → IsChoice build root c
  pub complete : (c : List ℕ) → IsChoice build root c → Contains choices c
  pub in_order : IsStrictlySortedBy (slice_cmp nat_cmp) choices

-- two fields that one walk emits, the first before the second, with one stored key
pub record AreDuplicates (es : List Emission) (first second : FieldView) : Type 0 where
  pub first_at : ℕ
  pub second_at : ℕ
  pub in_order : first_at < second_at
  pub first_is : slice_get es first_at ≡ Some (a_field first)
  pub second_is : slice_get es second_at ≡ Some (a_field second)
  pub same_key : key_of_field first ≡ key_of_field second

-- no two fields have one stored key
abbrev pub HasNoDuplicates : List Emission → Type 0
HasNoDuplicates es = (f g : FieldView) → ¬ AreDuplicates es f g

-- a resolution with one more emission taken in
abbrev pub with_emission : Resolved → Emission → Resolved
with_emission r (a_field f) = with_field r f
with_emission r (some_key_paths paths) = with_key_paths r paths
with_emission r (a_selection selection) = with_selection r selection
with_emission r (a_catch_all f) = with_catch_all r f.category f

-- what emissions put together
unfoldable pub resolution_from : List Emission → Resolved
resolution_from es = fold with_emission nothing es

-- the resolution of a choice without duplicate keys
pub record IsResolution (build : Build) (root : ℕ) (choice : List ℕ) (r : Resolved) : Type 0 where
  pub emissions : List Emission
  pub emitted : Emits build root choice emissions
  pub put_together : r ≡ resolution_from emissions
  pub no_duplicates : HasNoDuplicates emissions

-- a name and two paths that are those of a duplicate key of a choice, the field emitted first first
pub record IsChoiceDuplicate (build : Build) (root : ℕ) (name : Name)
    (first_path second_path : Path) : Type 0 where
  pub choice : List ℕ
  pub emissions : List Emission
  pub emitted : Emits build root choice emissions
  pub first : FieldView
  pub second : FieldView
  pub duplicates : AreDuplicates emissions first second
  pub same_name : name ≡ second.name
  pub first_is : first_path ≡ first.path
  pub second_is : second_path ≡ second.path

-- exactly one resolution for each choice, in order
pub record Enumerates (build : Build) (root : ℕ) (resolutions : List Resolved) : Type 0 where
  pub choices : List (List ℕ)
  pub listed : ListsChoices build root choices
  pub resolved : AllZip (IsResolution build root) choices resolutions

-- an error names a duplicate key of some choice, and out of memory may come at any time
abbrev pub IsRefusal : Build → ℕ → SchemaError → Type 0
IsRefusal build root (DuplicateField d) =
    IsChoiceDuplicate build root d.field_name.now d.first_path d.second_path
IsRefusal build root OutOfMemory = ⊤

-- each field stands under its name without category, so that no two have one name
abbrev pub GoesByName : Resolved → Type 0
GoesByName r =
    (k : Key) (f : FieldView) → map.get r.fields k ≡ Some f → k
    ≡ record { dom = None; name = f.name }
