-- Pairs of resolutions that a document may leave both viable, as a checker of types lists them.
use Rattle.std.specs.Prelude.{◌≡◌, ℕ, zero, suc, ◌++◌, ◌⊎◌, ◌&&◌, Bool, true, false, not, List, [], ◌∷◌, Option, Some, None, filter, is_some, slice_get}
use Rattle.facet_solver.specs.Fields.{FieldView, matches}
use Rattle.facet_solver.specs.Keys.{Key, dom_key, flat_key, key_of}
use Rattle.facet_solver.specs.Names.{Name, names_of}
use Rattle.facet_solver.specs.solver.Pairs.{CanBothBeViable, HasKeyFor, HasKeysRequiredBy, LeavesBothViable}
use Rattle.facet_solver.specs.Resolved.{Resolved, field_by_name}
use Rattle.facet_solver.specs.schema.Schema.{SchemaView}
use Rattle.facet_solver.specs.Resolutions.{has_key}
use Rattle.facet_solver.specs.solver.Told.{has_keys}
use Rattle.facet_solver.specs.solver.Report.{is_viable, resolution_field_names}
use Rattle.facet_solver.specs.declared.FieldCategory.TheVariants.{Flat, Attribute, Element, Text, Tag, Elements}
use Rattle.facet_solver.specs.declared.FieldKey.{FieldKey}
use Rattle.facet_solver_uses.specs.KeysToChoice.{keys_of}
use Rattle.facet_solver_uses.specs.declared.ambiguous_pairs.AmbiguousPair.{AmbiguousPair}

-- the names of a resolution's fields that another one has no field of, in key order
abbrev pub names_beside : Resolved → Resolved → List Name
names_beside other r =
    filter (λ name. not (is_some (field_by_name name other))) (resolution_field_names r)

-- the keys that may mean a field of a name, in whatever category: with the name, and without one
abbrev pub keys_for : Name → List Key
keys_for name =
    flat_key name ∷ dom_key Flat name ∷ dom_key Attribute name ∷ dom_key Element name
    ∷ dom_key Text name ∷ dom_key Tag name ∷ dom_key Elements name
    ∷ dom_key Text [] ∷ dom_key Tag [] ∷ dom_key Elements [] ∷ []

-- whether a key means a field and a resolution has it
abbrev pub serves : Resolved → FieldView → Key → Bool
serves r field key = matches key field && has_key key r

-- a key means a field, and a resolution has it; without one, it has none that means the field
abbrev pub IsKeyFor : Resolved → FieldView → Option FieldKey → Type 0
IsKeyFor r field (Some key) =
    (matches (key_of key) field ≡ true) × (has_key (key_of key) r ≡ true)
IsKeyFor r field None = ¬ HasKeyFor r field

-- keys that two resolutions have were added, and all of them meet what the first one requires
pub record MeetsMore (required_by other : Resolved) (before after : List Key) : Type 0 where
  pub of_first : has_keys before required_by ≡ true → has_keys after required_by ≡ true
  pub of_second : has_keys before other ≡ true → has_keys after other ≡ true
  pub meets : is_viable after required_by ≡ true
  pub keeps : (r : Resolved) → is_viable before r ≡ true → is_viable after r ≡ true

-- such keys were added, or the second has no key for a field that the first requires
abbrev pub AddsKeys : Resolved × Resolved → List Key → Bool → List Key → Type 0
AddsKeys both before true after = MeetsMore both.0 both.1 before after
AddsKeys both before false after = ¬ HasKeysRequiredBy both.0 both.1

-- two resolutions have each of some keys, and these meet what both require
pub record AreShared (r s : Resolved) (keys : List Key) : Type 0 where
  pub of_first : has_keys keys r ≡ true
  pub of_second : has_keys keys s ≡ true
  pub meets_first : is_viable keys r ≡ true
  pub meets_second : is_viable keys s ≡ true

-- a pair is that of two resolutions: keys that both share, and the names that only one of them has
pub record IsPairOf (resolutions : List Resolved) (first second : ℕ) (pair : AmbiguousPair)
    : Type 0 where
  pub at_first : pair.first ≡ first
  pub at_second : pair.second ≡ second
  pub r : Resolved
  pub s : Resolved
  pub first_there : slice_get resolutions first ≡ Some r
  pub second_there : slice_get resolutions second ≡ Some s
  pub shared : AreShared r s (keys_of pair.keys.items)
  pub only_first : names_of pair.only_first.items ≡ names_beside s r
  pub only_second : names_of pair.only_second.items ≡ names_beside r s

-- two resolutions that no keys leave both viable have no pair
abbrev pub PairsIfAny : List Resolved → ℕ → ℕ → Option AmbiguousPair → Type 0
PairsIfAny resolutions first second (Some pair) = IsPairOf resolutions first second pair
PairsIfAny resolutions first second None = (r s : Resolved)
    → slice_get resolutions first ≡ Some r → slice_get resolutions second ≡ Some s
    → ¬ (HasKeysRequiredBy r s × HasKeysRequiredBy s r)

-- such a pair's keys, told to a new solver, leave both viable
pub record IsPairAt (schema : SchemaView) (indices : ℕ × ℕ) (pair : AmbiguousPair) : Type 0 where
  pub pair_of : IsPairOf schema.resolutions indices.0 indices.1 pair
  pub leaves : LeavesBothViable schema (keys_of pair.keys.items) indices.0 indices.1

-- of some two indices each, in order, those that some keys leave both viable, each with its pair
abbrev pub ListsPairs : SchemaView → List (ℕ × ℕ) → List AmbiguousPair → Type 0
ListsPairs schema [] pairs = pairs ≡ []
ListsPairs schema (indices ∷ rest) [] =
    (¬ CanBothBeViable schema indices.0 indices.1) × ListsPairs schema rest []
ListsPairs schema (indices ∷ rest) (pair ∷ pairs) =
    (IsPairAt schema indices pair × ListsPairs schema rest pairs)
    ⊎ ((¬ CanBothBeViable schema indices.0 indices.1) × ListsPairs schema rest (pair ∷ pairs))

-- an index with each below a bound
abbrev pub pairs_with : ℕ → ℕ → List (ℕ × ℕ)
pairs_with second zero = []
pairs_with second (suc first) = pairs_with second first ++ (first, second) ∷ []

-- each two indices below a bound, the lesser first
abbrev pub pairs_below : ℕ → List (ℕ × ℕ)
pairs_below zero = []
pairs_below (suc second) = pairs_below second ++ pairs_with second second
