-- At which place of a plan two readings differ, and what a list of places promises.
use Rattle.std.specs.Prelude.{◌≡◌, ◌⊎◌, ℕ, List, [], Some, slice_get}
use Rattle.facet_solver_checker.specs.declared.apart.Apart.{Apart}
use Rattle.facet_solver_witnesses.specs.declared.place.Fork.{Fork}
use Rattle.facet_solver_witnesses.specs.declared.place.Fork.TheVariants as forks
use Rattle.facet_solver_witnesses.specs.declared.place.Place.{Place}
use Rattle.facet_solver_reader.specs.declared.plan.Plan.{Plan}
use Rattle.facet_solver_reader.specs.declared.plan.PlannedTarget.{PlannedTarget}
use Rattle.facet_solver_checker.specs.Certain.{IsUnambiguous, ListsAll}
use Rattle.facet_solver_checker.specs.Differing.{Difference, Side}
use Rattle.facet_solver_checker.specs.Forks.{IsBranchAt, IsPlanFor, IsSelectionAt, LeavesAll}
use Rattle.facet_solver_checker.specs.Forks.{side_at}
use Rattle.facet_solver_checker.specs.Leading.{Leads, Spot, enum_of, part_of}
use Rattle.facet_solver_reader.specs.Parts.{Selection, Target, of_shape}
use Rattle.facet_solver_reader.specs.Plans.{IsNumberOf, Meaning}

-- two sides stand at two indices, in either order
abbrev pub StandAt : (ℕ → Side → Type 0) → ℕ × ℕ → Side → Side → Type 0
StandAt IsAt ways a b = (IsAt ways.0 a × IsAt ways.1 b) ⊎ (IsAt ways.0 b × IsAt ways.1 a)

-- what can be read in several ways, and two of them
pub record Choosing : Type 0 where
  pub spot : Spot
  pub first : Side
  pub second : Side

-- two branches of a selection stand at the ways of the part that it is of a list
pub record IsAtSelection (m : Meaning) (plan : Plan) (at ways : ℕ × ℕ) (c : Choosing)
    : Type 0 where
  pub selection : Selection
  pub there : IsSelectionAt m plan at selection
  pub spot_is : c.spot ≡ part_of there.id at.1
  pub stand : StandAt (IsBranchAt m selection there.planned) ways c.first c.second

-- two variants of an enum stand at the ways of the target that it is
pub record IsAtEnum (m : Meaning) (plan : Plan) (target : ℕ) (ways : ℕ × ℕ) (c : Choosing)
    : Type 0 where
  pub shape : ℕ
  pub spot_is : c.spot ≡ enum_of shape
  pub numbered : IsNumberOf m (of_shape shape) target
  pub planned : PlannedTarget
  pub planned_is : slice_get plan.targets.items target ≡ Some planned
  pub stand : StandAt (λ i a. side_at planned.end i ≡ a) ways c.first c.second

-- two ways to read the same are those of a place
abbrev pub IsAtFork : Meaning → Plan → Fork → ℕ × ℕ → Choosing → Type 0
IsAtFork m plan (forks.Selection list part) ways c = IsAtSelection m plan (list, part) ways c
IsAtFork m plan (forks.Enum target) ways c = IsAtEnum m plan target ways c

abbrev pub IsAt : Meaning → Plan → Choosing → Place → Type 0
IsAt m plan c place = IsAtFork m plan place.fork (place.first, place.second) c

-- a difference of two readings as a target leads to a place, and takes its two ways there
pub record IsPlaceOf (m : Meaning) (plan : Plan) (t : Target) (place : Place) (d : Difference)
    : Type 0 where
  pub spot : Spot
  pub leads : Leads m.rules t d.way spot
  pub is_at : IsAt m plan (record { spot = spot; first = d.first; second = d.second }) place

-- wherever two readings of a document as a target of the plan differ first, that is listed, if the
-- table that is given leaves all pairs that read one value
abbrev pub AreAllPlaces : Plan → Apart → List Place → Type 0
AreAllPlaces plan apart places =
    (m : Meaning) → IsPlanFor m plan → LeavesAll m apart → (t : Target) (n : ℕ)
    → IsNumberOf m t n → ListsAll m.rules t (IsPlaceOf m plan t) places

-- so where none is listed, no document has two readings
abbrev pub IsCertain : Plan → Apart → List Place → Type 0
IsCertain plan apart places =
    (m : Meaning) → IsPlanFor m plan → LeavesAll m apart → (t : Target) (n : ℕ)
    → IsNumberOf m t n → places ≡ [] → IsUnambiguous m.rules t
