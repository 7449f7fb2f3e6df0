-- How ends that are no lists of parts read the member of a name.
use Rattle.std.specs.Prelude.{◌≡◌, ℕ, List, All, Some, slice_get}
use Rattle.std.specs.List.{Contains}
use Rattle.facet_solver_shape.specs.Names.{Name}
use Rattle.facet_solver_reader.specs.declared.plan.Plan.{Plan}
use Rattle.facet_solver_reader.specs.declared.plan.PlannedEnd.{PlannedEnd}
use Rattle.facet_solver_reader.specs.declared.plan.PlannedList.{PlannedList}
use Rattle.facet_solver_reader.specs.declared.plan.PlannedName.{PlannedName}
use Rattle.facet_solver_reader.specs.Documents.{Members, members, object}
use Rattle.facet_solver_reader.specs.Objects.{HasNamed}
use Rattle.facet_solver_reader.specs.Plans.{Meaning}
use Rattle.facet_solver_reader.specs.Values.{ReadsDown}
use Rattle.facet_solver_checker.specs.declared.end_ways.MemberWays.{MemberWays}
use Rattle.facet_solver_checker.specs.declared.ways.Ways.{Ways}
use Rattle.facet_solver_checker.specs.Atoms.{IsPlanFor, ReadsAs}
use Rattle.facet_solver_checker.specs.Ways.{AreWays, IsReadIn}

-- an end reads the member of the name in one of the ways
abbrev pub AreEndWays : Plan → PlannedEnd → Name → Ways → Type 0
AreEndWays plan e x w =
    (m : Meaning) → IsPlanFor m plan → (depth : ℕ) (ms : Members)
    → ReadsAs m (ReadsDown m.rules depth) e (object ms) → (has : HasNamed (members ms) x)
    → IsReadIn m (ReadsDown m.rules depth) w has.value

-- a list of parts that has a number reads it in some ways, and an end in others
pub record AreMemberWays (plan : Plan) (list : ℕ) (e : PlannedEnd) (x : Name) (w : MemberWays)
    : Type 0 where
  pub entry : PlannedList
  pub entry_is : slice_get plan.lists.items list ≡ Some entry
  pub list_ways : AreWays plan entry x entry.below.items w.list
  pub end_ways : AreEndWays plan e x w.end

-- the content of a variant is in a list, if the variant has the name
abbrev pub HasContent : Name → List ℕ → PlannedName → Type 0
HasContent x ts p = p.text.now ≡ x → Contains ts p.content

-- so is that of each variant of the name
abbrev pub AreContentsAmong : List PlannedName → Name → List ℕ → Type 0
AreContentsAmong ps x ts = All (HasContent x ts) ps
