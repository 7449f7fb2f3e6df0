-- What can be read in several ways: the selections and the enums of a plan; and which two ways have
-- no value in common.
use Rattle.std.specs.Prelude.{◌≡◌, ◌⊎◌, ◌+◌, ◌<◌, ℕ, Any, Bool, List, Some, length, slice_get}
use Rattle.facet_solver_checker.specs.declared.apart.Apart.{Apart}
use Rattle.facet_solver_witnesses.specs.declared.place.Fork.{Fork}
use Rattle.facet_solver_witnesses.specs.declared.place.Fork.TheVariants as forks
use Rattle.facet_solver_witnesses.specs.declared.place.Place.{Place}
use Rattle.facet_solver_reader.specs.declared.plan.Plan.{Plan}
use Rattle.facet_solver_reader.specs.declared.plan.PlannedEnd.{PlannedEnd}
use Rattle.facet_solver_reader.specs.declared.plan.PlannedEnd.TheVariants as planned
use Rattle.facet_solver_reader.specs.declared.plan.PlannedList.{PlannedList}
use Rattle.facet_solver_reader.specs.declared.plan.PlannedPart.{PlannedPart}
use Rattle.facet_solver_reader.specs.declared.plan.PlannedPart.TheVariants as parts
use Rattle.facet_solver_reader.specs.declared.plan.PlannedSelection.{PlannedSelection}
use Rattle.facet_solver_reader.specs.declared.plan.PlannedTarget.{PlannedTarget}
use Rattle.facet_solver_reader.specs.Objects.{Object, Reads}
use Rattle.facet_solver_reader.specs.Parts.{ListId, Part, Selection, a_selection}
use Rattle.facet_solver_reader.specs.Plans.{IsNumberOfList, IsPlannedSelection, Meaning}
use Rattle.facet_solver_reader.specs.Values.{ReadsDown}
use Rattle.facet_solver_checker.specs.BranchesMeet.{BranchesMeet, MustTouch}
use Rattle.facet_solver_checker.specs.Comes.{ComesTo}
use Rattle.facet_solver_checker.specs.Differing.{Side, branch}
pub use Rattle.facet_solver_checker.specs.Aparts.{LeavesAll}
pub use Rattle.facet_solver_checker.specs.Atoms.{IsPlanFor}
pub use Rattle.facet_solver_checker.specs.VariantsApart.{AreVariantsApart, side_at, way_at}

-- a branch of a selection stands at an index, by the number of its list
pub record IsBranchAt (m : Meaning) (s : Selection) (p : PlannedSelection) (index : ℕ) (a : Side)
    : Type 0 where
  pub index_of : ℕ
  pub side : a ≡ branch index_of
  pub list : ListId
  pub is_branch : slice_get s.branches index_of ≡ Some list
  pub number : ℕ
  pub stands : slice_get p.branches.items index ≡ Some number
  pub numbered : IsNumberOfList m list number

-- a selection is the part at an index of the list of a number, as it is planned
pub record IsSelectionAt (m : Meaning) (plan : Plan) (at : ℕ × ℕ) (s : Selection) : Type 0 where
  pub id : ListId
  pub numbered : IsNumberOfList m id at.0
  pub all : List Part
  pub all_are : m.rules.lists id ≡ Some all
  pub selection_is : slice_get all at.1 ≡ Some (a_selection s)
  pub list : PlannedList
  pub list_is : slice_get plan.lists.items at.0 ≡ Some list
  pub planned : PlannedSelection
  pub planned_is : slice_get list.parts.items at.1 ≡ Some (parts.Selection planned)
  pub is_planned : IsPlannedSelection m s planned

-- one object that comes to a list is read by two branches of the selection that is a part of it
pub record SelectionMeets (m : Meaning) (plan : Plan) (reads : Reads) (at ways : ℕ × ℕ) : Type 0
  where
    pub selection : Selection
    pub there : IsSelectionAt m plan at selection
    pub j : ℕ
    pub k : ℕ
    pub first : IsBranchAt m selection there.planned ways.0 (branch j)
    pub second : IsBranchAt m selection there.planned ways.1 (branch k)
    pub meet : BranchesMeet m.rules reads selection j k
    pub comes : ComesTo m plan reads at.0 meet.object

-- there is none, if the table that is given leaves all pairs that read one value
abbrev pub IsSelectionApart : Plan → Apart → ℕ × ℕ → ℕ × ℕ → Type 0
IsSelectionApart plan apart at ways =
    (m : Meaning) → IsPlanFor m plan → LeavesAll m apart → (d : ℕ)
    → SelectionMeets m plan (ReadsDown m.rules d) at ways → ⊥

-- no object is read by the list of a number, if the table that is given leaves all pairs that read
-- one value
abbrev pub ReadsNone : Plan → Apart → ℕ → Type 0
ReadsNone plan apart n =
    (m : Meaning) → IsPlanFor m plan → LeavesAll m apart → (d : ℕ) (object : Object)
    → ComesTo m plan (ReadsDown m.rules d) n object → ⊥

-- no object that comes to the list of a number is read by two branches of a selection, by the
-- numbers of their lists; the object has a member that the selection knows, if it must
abbrev pub AreBranchesApart : Plan → Apart → ℕ → Bool → ℕ × ℕ → Type 0
AreBranchesApart plan apart n must branches =
    (m : Meaning) → IsPlanFor m plan → LeavesAll m apart → (s : Selection) (a b : ListId)
    → IsNumberOfList m a branches.0 → IsNumberOfList m b branches.1 → (d j k : ℕ)
    → slice_get s.branches j ≡ Some a → slice_get s.branches k ≡ Some b
    → (meet : BranchesMeet m.rules (ReadsDown m.rules d) s j k)
    → ComesTo m plan (ReadsDown m.rules d) n meet.object → MustTouch must m.rules meet.object s
    → ⊥

-- no value is read in both ways of a place
abbrev pub IsApartAt : Plan → Apart → Fork → ℕ × ℕ → Type 0
IsApartAt plan apart (forks.Selection list part) ways =
    IsSelectionApart plan apart (list, part) ways
IsApartAt plan apart (forks.Enum target) ways = AreVariantsApart plan apart target ways

abbrev pub IsApart : Plan → Apart → Place → Type 0
IsApart plan apart place = IsApartAt plan apart place.fork (place.first, place.second)

-- how many ways there are to read an enum
abbrev pub way_count : PlannedEnd → ℕ
way_count (planned.Named vs) = length vs.items
way_count (planned.Untagged o alone) = length alone.items + 1
way_count _ = 0

-- a part is a selection of so many branches
abbrev pub HasWays : PlannedPart → ℕ → Type 0
HasWays (parts.Selection p) n = length p.branches.items ≡ n
HasWays _ n = ⊥

-- so is the part at an index
abbrev pub IsPartFork : List PlannedPart → ℕ → ℕ → Type 0
IsPartFork ps i n = (p : PlannedPart) × (slice_get ps i ≡ Some p) × HasWays p n

-- a plan has a fork of so many ways
abbrev pub IsFork : Plan → Fork → ℕ → Type 0
IsFork plan (forks.Selection list part) n =
    (l : PlannedList) × (slice_get plan.lists.items list ≡ Some l)
    × IsPartFork l.parts.items part n
IsFork plan (forks.Enum target) n =
    (p : PlannedTarget) × (slice_get plan.targets.items target ≡ Some p) × (way_count p.end ≡ n)

-- a place stands in a list
abbrev pub IsListed : List Place → Place → Type 0
IsListed places place = Any (λ p. p ≡ place) places

-- the two ways of a place are apart, or it is listed
abbrev pub IsSettled : Plan → Apart → List Place → Place → Type 0
IsSettled plan apart places place = IsApart plan apart place ⊎ IsListed places place

-- two ways of a fork
abbrev pub place_at : Fork → ℕ → ℕ → Place
place_at fork first second = record { fork = fork; first = first; second = second }

-- so are each two of the first ways of a fork
abbrev pub AreSettled : Plan → Apart → List Place → Fork → ℕ → Type 0
AreSettled plan apart places fork n =
    (x y : ℕ) → x < y → y < n → IsSettled plan apart places (place_at fork x y)

-- so are each two ways of each fork
abbrev pub AllSettled : Plan → Apart → List Place → Type 0
AllSettled plan apart places =
    (fork : Fork) (n : ℕ) → IsFork plan fork n → AreSettled plan apart places fork n

-- what is listed stays so
abbrev pub Grows : List Place → List Place → Type 0
Grows before after = (place : Place) → IsListed before place → IsListed after place
