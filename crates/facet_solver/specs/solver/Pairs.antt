-- Pairs of resolutions that some keys leave both viable.
use Rattle.std.specs.Prelude.{◌≡◌, ℕ, true, List, Contains}
use Rattle.std.specs.FinMap as finite
use Rattle.std.specs.List.{AllByRecursion}
use Rattle.facet_solver_shape.specs.Fields.{FieldView, matches}
use Rattle.facet_solver_shape.specs.Keys.{Key}
use Rattle.facet_solver_shape.specs.Resolved.{Resolved}
use Rattle.facet_solver.specs.schema.Schema.{SchemaView}
use Rattle.facet_solver.specs.solver.State.{new_solver}
use Rattle.facet_solver.specs.Resolutions.{has_key}
use Rattle.facet_solver.specs.solver.Told.{see_keys}
use Rattle.facet_solver.specs.solver.Report.{viable}

-- keys, told to a new solver one after another, leave the resolutions at two indices viable
pub record LeavesBothViable (schema : SchemaView) (keys : List Key) (first second : ℕ)
    : Type 0 where
  pub first_viable : Contains (viable (see_keys keys (new_solver schema))) first
  pub second_viable : Contains (viable (see_keys keys (new_solver schema))) second

-- some keys do
pub record CanBothBeViable (schema : SchemaView) (first second : ℕ) : Type 0 where
  pub keys : List Key
  pub leaves : LeavesBothViable schema keys first second

-- a resolution has a key that means a field, which may be another resolution's
pub record HasKeyFor (r : Resolved) (field : FieldView) : Type 0 where
  pub key : Key
  pub means : matches key field ≡ true
  pub has : has_key key r ≡ true

-- it has one for each field that another resolution requires
abbrev pub HasKeysRequiredBy : Resolved → Resolved → Type 0
HasKeysRequiredBy other r = AllByRecursion
    (λ field. field.is_required ≡ true → HasKeyFor r field) (finite.values other.fields)
