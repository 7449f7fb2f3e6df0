-- What a list of places promises, whatever table it was found by.
use Rattle.std.specs.Prelude.{◌≡◌, ℕ, List, []}
use Rattle.facet_solver_reader.specs.declared.plan.Plan.{Plan}
use Rattle.facet_solver_reader.specs.Parts.{Target}
use Rattle.facet_solver_reader.specs.Plans.{IsNumberOf, Meaning}
use Rattle.facet_solver_witnesses.specs.declared.place.Place.{Place}
use Rattle.facet_solver_checker.specs.Ambiguity.{IsPlaceOf}
use Rattle.facet_solver_checker.specs.Atoms.{IsPlanFor}
use Rattle.facet_solver_checker.specs.Certain.{IsUnambiguous, ListsAll}

-- the numbers of a plan stand for something
abbrev pub IsPlanned : Plan → Type 0
IsPlanned plan = (m : Meaning) × IsPlanFor m plan

-- wherever two readings of a document as a target of the plan differ first, that is listed
abbrev pub AreAllTold : Plan → List Place → Type 0
AreAllTold plan places =
    (m : Meaning) → IsPlanFor m plan → (t : Target) (n : ℕ) → IsNumberOf m t n
    → ListsAll m.rules t (IsPlaceOf m plan t) places

-- where no place is listed, no document has two readings as a target of the plan
abbrev pub IsTold : Plan → List Place → Type 0
IsTold plan places =
    (m : Meaning) → IsPlanFor m plan → (t : Target) (n : ℕ) → IsNumberOf m t n → places ≡ []
    → IsUnambiguous m.rules t
