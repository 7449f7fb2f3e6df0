-- What emissions, taken in one by one, make of a resolution: more of it, or a duplicate key. No
-- public clause speaks of it.
use Rattle.std.specs.Prelude.{⊤, ℕ, List, [], ◌∷◌, Option, Some, None, ◌≡◌, Result, MatchResult}
use Rattle.std.specs.FinMap as map
use Rattle.facet_solver_shape.specs.Names.{Name}
use Rattle.facet_solver_shape.specs.Fields.{FieldView, key_of_field}
use Rattle.facet_solver_shape.specs.Resolved.{Resolved, with_field, with_selection, with_catch_all}
use Rattle.facet_solver.specs.build.Place.{Path}
use Rattle.facet_solver.specs.build.Nested.{with_key_paths}
use Rattle.facet_solver.specs.build.Emissions.{Emission, a_field, some_key_paths, a_selection, a_catch_all}
use Rattle.facet_solver.specs.build.Walk.{Walked}
use Rattle.std.specs.Borrow.{Bor}
use Rattle.facet_solver_shape.specs.declared.resolution.error.DuplicateFieldError.{DuplicateFieldError}
use Rattle.facet_solver_shape.specs.declared.resolution.error.SchemaError.{SchemaError}
use Rattle.facet_solver_shape.specs.declared.resolution.error.SchemaError.TheVariants.{DuplicateField, OutOfMemory}

-- two fields of one stored key, the first emitted first
pub record Duplicate : Type 0 where
  pub name : Name
  pub first_path : Path
  pub second_path : Path

-- a resolution, or the duplicate key that it came to
pub data Outcome : Type 0 where
  resolved : Resolved → Outcome
  duplicate : Duplicate → Outcome

-- on from a resolution
abbrev pub next : Outcome → (Resolved → Outcome) → Outcome
next (resolved r) go = go r
next (duplicate d) go = duplicate d

-- one more field, where its key is free
abbrev pub with_known : Option FieldView → Resolved → FieldView → Outcome
with_known None r f = resolved (with_field r f)
with_known (Some g) r f =
    duplicate record { name = f.name; first_path = g.path; second_path = f.path }

-- one emission
unfoldable pub take_in : Resolved → Emission → Outcome
take_in r (a_field f) = with_known (map.get r.fields (key_of_field f)) r f
take_in r (some_key_paths paths) = resolved (with_key_paths r paths)
take_in r (a_selection selection) = resolved (with_selection r selection)
take_in r (a_catch_all f) = resolved (with_catch_all r f.category f)

-- emissions in order
unfoldable pub take_all : Resolved → List Emission → Outcome
take_all r [] = resolved r
take_all r (e ∷ es) = next (take_in r e) (λ s. take_all s es)

-- what a walk makes of a resolution, and the indices that it leaves
abbrev pub effect : Resolved → Walked → Option (Outcome × List ℕ)
effect r None = None
effect r (Some w) = Some (take_all r w.0, w.1)

-- what a refusal as duplicate says
abbrev pub duplicate_view : DuplicateFieldError → Duplicate
duplicate_view d =
    record { name = d.field_name.now; first_path = d.first_path; second_path = d.second_path }

-- what an error says of an outcome: a duplicate is that of the outcome, and out of memory says
-- nothing
abbrev pub ErrorOf : Outcome → SchemaError → Type 0
ErrorOf o (DuplicateField d) = o ≡ duplicate (duplicate_view d)
ErrorOf o OutOfMemory = ⊤

-- the result of a call that leaves the resolution that an outcome says, or fails as it says
abbrev pub Gives : {T : Type 0} → Outcome → Result T SchemaError → Resolved → Type 0
Gives o result r = MatchResult result (λ _. o ≡ resolved r) (λ e. ErrorOf o e)

-- what an error says of the effect of a walk
abbrev pub StopsBy : Option (Outcome × List ℕ) → SchemaError → Type 0
StopsBy e (DuplicateField d) = (rest : List ℕ) × (e ≡ Some (duplicate (duplicate_view d), rest))
StopsBy e OutOfMemory = ⊤

-- the result of a walk that hands on the indices that it leaves
abbrev pub Walks : Option (Outcome × List ℕ) → Result (Bor (List ℕ)) SchemaError → Resolved → Type 0
Walks e result r =
    MatchResult result (λ rest. e ≡ Some (resolved r, rest.now)) (λ err. StopsBy e err)
