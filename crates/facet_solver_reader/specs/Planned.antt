-- What the only reading of an object goes through, as it is found before the values of its members.
use Rattle.std.specs.Prelude.{◌≡◌, ℕ, All, List, map, Option, Some, None, ⊤}
use Rattle.facet_solver_reader.specs.declared.count.Count.TheVariants.{One}
use Rattle.facet_solver_reader.specs.declared.nodes.Nodes.{Nodes}
use Rattle.facet_solver_reader.specs.declared.read.steps.Step as code
use Rattle.facet_solver_reader.specs.declared.count.object.Object as read
use Rattle.facet_solver_reader.specs.declared.tables.Tables.{Tables}
use Rattle.facet_solver_reader.specs.Branches.{ReadsList, ReadsPart}
use Rattle.facet_solver_reader.specs.Choices.{Choice, ChoiceAt, Reading, lacking, having, taking}
use Rattle.facet_solver_reader.specs.Counted.{IsOnly}
use Rattle.facet_solver_reader.specs.FieldPlaces.{Path}
use Rattle.facet_solver_reader.specs.Objects.{Object, Reads}
use Rattle.facet_solver_reader.specs.Parts.{CatchAll, MemberPart, Part, a_member, a_catch_all}
use Rattle.facet_solver_reader.specs.Reading.{IsListCount, IsPartCount, object_view}
use Rattle.facet_solver_reader.specs.Readings.{ReadsValue}
use Rattle.facet_solver_reader.specs.Rules.{Rules}
use Rattle.facet_solver_reader.specs.Steps as steps
use Rattle.facet_solver_reader.specs.Steps.{Step, steps_through, Walk}
use Rattle.facet_solver_reader.specs.Tables.{PartIsServed, rules_at}
use Rattle.facet_solver_reader.specs.Views.{catch_all_view, list_view, member_view}

-- a step, whatever is read there
pub data Planned : Type 0 where
  a_field : Path → MemberPart → Planned
  a_variant : Path → ℕ → ℕ → Planned
  an_absence : Path → Planned
  a_rest : CatchAll → Planned

-- a step of a choice, whatever is read there
abbrev pub planned_of : Step → Planned
planned_of (steps.a_field path m r) = a_field path m
planned_of (steps.a_variant path id k) = a_variant path id k
planned_of (steps.an_absence path) = an_absence path
planned_of (steps.a_rest k t) = a_rest k

-- a step in memory
abbrev pub step_view : code.Step → Planned
step_view (code.TheVariants.Field path m) = a_field path (member_view m.now)
step_view (code.TheVariants.Variant path id k) = a_variant path id k
step_view (code.TheVariants.Absence path) = an_absence path
step_view (code.TheVariants.Rest k) = a_rest (catch_all_view k.now)

-- how a member is chosen, by how it is read if the object has it
abbrev pub choice_of : Option Reading → ChoiceAt
choice_of None = lacking
choice_of (Some r) = having r

-- an object has one reading by a part, and that is it
pub record IsOnlyAt (rules : Rules) (reads : Reads) (object : Object) (p : Part) (a : ChoiceAt)
    : Type 0 where
  pub only : IsOnly (ReadsPart rules reads object p)
  pub is : only.value ≡ a

-- an object has one reading by the part of a step, and that is the step's
abbrev pub IsOnlyStep : Rules → Reads → Object → Step → Type 0
IsOnlyStep rules reads object (steps.a_field path m r) =
    IsOnlyAt rules reads object (a_member m) (choice_of r)
IsOnlyStep rules reads object (steps.a_variant path id k) = ⊤
IsOnlyStep rules reads object (steps.an_absence path) = ⊤
IsOnlyStep rules reads object (steps.a_rest k t) =
    IsOnlyAt rules reads object (a_catch_all k) (taking t)

-- a numbered object has one reading by the part of a planned step
abbrev pub IsOnlyPlanned : Tables → Nodes → read.Object → Planned → Type 0
IsOnlyPlanned t nodes o (a_field path m) = IsPartCount t nodes o (a_member m) One
IsOnlyPlanned t nodes o (a_variant path id k) = ⊤
IsOnlyPlanned t nodes o (an_absence path) = ⊤
IsOnlyPlanned t nodes o (a_rest k) = IsPartCount t nodes o (a_catch_all k) One

-- the tables have what a step leads to
abbrev pub StepIsServed : Tables → Planned → Type 0
StepIsServed t (a_field path m) = PartIsServed t (a_member m)
StepIsServed t (a_variant path id k) = ⊤
StepIsServed t (an_absence path) = ⊤
StepIsServed t (a_rest k) = PartIsServed t (a_catch_all k)

-- the shapes and lists of tables
abbrev pub walk_at : Tables → Walk
walk_at t = record { shapes = t.shapes.now; lists = (rules_at t).lists }

-- steps in memory are those of a reading of an object by its list, and at each the object has one
-- reading
pub record IsPlan (t : Tables) (nodes : Nodes) (o : read.Object) (found : List code.Step)
    : Type 0 where
  pub choice : Choice
  pub reads :
      ReadsList (rules_at t) (ReadsValue (rules_at t)) (object_view nodes o)
      (list_view o.list.now.id) choice
  pub steps : List Step
  pub steps_are : steps ≡ steps_through (walk_at t) (list_view o.list.now.id) choice
  pub planned : map planned_of steps ≡ map step_view found
  pub only : All (IsOnlyStep (rules_at t) (ReadsValue (rules_at t)) (object_view nodes o)) steps
  pub served : All (StepIsServed t) (map step_view found)

-- steps in memory are those of the reading of an object by its list, where it has one; and it has
-- one where it has one at each step
pub record IsPlanIfOne (t : Tables) (nodes : Nodes) (o : read.Object) (found : List code.Step)
    : Type 0 where
  pub served : All (StepIsServed t) (map step_view found)
  pub plan : IsListCount t nodes o o.list.now One → IsPlan t nodes o found
  pub one :
      All (IsOnlyPlanned t nodes o) (map step_view found) → IsListCount t nodes o o.list.now One
