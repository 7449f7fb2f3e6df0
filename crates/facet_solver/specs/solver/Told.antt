-- What keys leave of a new solver that are seen one after another.
use Rattle.std.specs.Prelude.{◌≡◌, ℕ, Bool, true, List, [], ◌∷◌, Contains, Some, filter, fold, if◌then◌else◌, length, slice_get}
use Rattle.std.specs.List.{list_all, list_any}
use Rattle.facet_solver_shape.specs.Keys.{Key}
use Rattle.facet_solver_shape.specs.Names.{Name}
use Rattle.facet_solver_shape.specs.Resolved.{Resolved}
use Rattle.facet_solver.specs.build.Build.{Build}
use Rattle.facet_solver.specs.build.Choice.{IsResolution}
use Rattle.facet_solver.specs.schema.Schema.{SchemaView}
use Rattle.facet_solver.specs.solver.State.{State, new_solver, passing, see_key}
use Rattle.facet_solver.specs.Resolutions.{has_key, is_known}
use Rattle.facet_solver.specs.solver.Report.{descriptions, is_viable, resolutions_at, viable}

-- keys are seen, one after another
abbrev pub see_keys : List Key → State → State
see_keys keys s = fold (λ now key. see_key key now) s keys

-- whether a resolution has every key of a list
abbrev pub has_keys : List Key → Resolved → Bool
has_keys keys r = list_all (λ key. has_key key r) keys

-- the indices of the resolutions that have every key of a list
abbrev pub indices_with : List Key → SchemaView → List ℕ
indices_with keys schema = passing (has_keys keys) (new_solver schema)

-- one more key is accepted, where some resolution has it and all keys that were accepted before
abbrev pub accept : List Resolved → List Key → Key → List Key
accept resolutions accepted key =
    if list_any (has_keys (key ∷ accepted)) resolutions then key ∷ accepted else accepted

-- those keys of a list that are accepted one after another, the last first
abbrev pub accepted_keys : List Resolved → List Key → List Key
accepted_keys resolutions keys = fold (accept resolutions) [] keys

-- those keys of a list that some resolution has
abbrev pub known_keys : List Resolved → List Key → List Key
known_keys resolutions keys = filter (is_known resolutions) keys

-- the resolution at an index has each key of a list that any resolution has
pub record HasAllKnown (schema : SchemaView) (keys : List Key) (index : ℕ) (r : Resolved)
    : Type 0 where
  pub present : slice_get schema.resolutions index ≡ Some r
  pub has_known : has_keys (known_keys schema.resolutions keys) r ≡ true

-- two lists have the same keys, in whatever order and however often
pub record HaveSameKeys (keys others : List Key) : Type 0 where
  pub in_others : (key : Key) → Contains keys key → Contains others key
  pub in_keys : (key : Key) → Contains others key → Contains keys key

-- the end of a solver comes to the resolution at an index: it is the only viable candidate, or its
-- description stands at its place among the descriptions of all viable ones
pub record EndsWithOrNames (s : State) (index : ℕ) (text : Name) : Type 0 where
  pub alone : length (viable s) ≡ 1 → viable s ≡ index ∷ []
  pub place : ℕ
  pub at_place : slice_get (viable s) place ≡ Some index
  pub described : slice_get (descriptions (resolutions_at s.schema.resolutions (viable s))) place
      ≡ Some text

-- the resolution of a choice has a key
pub record ChoiceHasKey (build : Build) (root : ℕ) (choice : List ℕ) (key : Key) : Type 0 where
  pub resolution : Resolved
  pub of_choice : IsResolution build root choice resolution
  pub has : has_key key resolution ≡ true

-- the keys of a choice are told, in whatever order and however often, unknown keys among them: the
-- choice has each told key that any choice has, and each field that its resolution requires is
-- matched by a told key
pub record TellsChoice
    (build : Build) (root : ℕ) (choice : List ℕ) (keys : List Key) (r : Resolved)
    : Type 0 where
  pub resolved : IsResolution build root choice r
  pub has_known : (key : Key) → Contains keys key → (other : List ℕ)
      → ChoiceHasKey build root other key → has_key key r ≡ true
  pub has_required : is_viable keys r ≡ true

-- the later candidates are some of the earlier ones, in their order
pub record LeavesSome {A : Type 0} (before after : List A) : Type 0 where
  pub stays : A → Bool
  pub left : after ≡ filter stays before
