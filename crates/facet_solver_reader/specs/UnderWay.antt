-- The steps of the only reading of an object, as they are found one after another.
use Rattle.std.specs.Prelude.{◌≡◌, ◌⊎◌, ⊤, ℕ, All, List, [], ◌∷◌, ◌++◌, drop, length, map, None, Option}
use Rattle.std.specs.Prelude.{Some, Vec, slice_get}
use Rattle.std.specs.Global.{Global}
use Rattle.facet_solver_reader.specs.declared.count.Count.{Count}
use Rattle.facet_solver_reader.specs.declared.count.Count.TheVariants.{One}
use Rattle.facet_solver_reader.specs.declared.nodes.Nodes.{Nodes}
use Rattle.facet_solver_reader.specs.declared.read.steps.Frame.{Frame}
use Rattle.facet_solver_reader.specs.declared.read.steps.Step as code
use Rattle.facet_solver_reader.specs.declared.count.object.Object as read
use Rattle.facet_solver_reader.specs.declared.tables.List.{List as ListEntry}
use Rattle.facet_solver_reader.specs.declared.tables.Tables.{Tables}
use Rattle.facet_solver_reader.specs.Branches.{ReadsList, ReadsParts}
use Rattle.facet_solver_reader.specs.Choices.{Choice}
use Rattle.facet_solver_reader.specs.Counted.{IsOnly}
use Rattle.facet_solver_reader.specs.FieldPlaces.{Path}
use Rattle.facet_solver_reader.specs.Parts.{ListId, Part, Selection}
use Rattle.facet_solver_reader.specs.Planned.{IsOnlyPlanned, IsOnlyStep, StepIsServed, planned_of}
use Rattle.facet_solver_reader.specs.Planned.{step_view, walk_at}
use Rattle.facet_solver_reader.specs.Reading.{AreListCounts, IsListCount, object_view}
use Rattle.facet_solver_reader.specs.Readings.{ReadsValue}
use Rattle.facet_solver_reader.specs.Slots.{index_of}
use Rattle.facet_solver_reader.specs.Steps.{Placed, Step, absence, placed_from, selected}
use Rattle.facet_solver_reader.specs.Steps.{steps_of, steps_through}
use Rattle.facet_solver_reader.specs.Tables.{rules_at}
use Rattle.facet_solver_reader.specs.Tells.{TellsNothing}
use Rattle.facet_solver_reader.specs.Views.{list_view, parts_view}

-- a list of the tables is one of those that the choices of an object's list go through
pub record IsBelow (t : Tables) (o : read.Object) (l : ListEntry) : Type 0 where
  pub position : ℕ
  pub index : ℕ
  pub is_below : slice_get o.list.now.below.items position ≡ Some index
  pub listed : slice_get t.lists.items index ≡ Some l

-- the parts of a list that are still to come
abbrev pub parts_left : Frame → List Part
parts_left f = drop f.next (parts_view f.list.now.parts.items)

-- the same with their places
abbrev pub placed_left : Tables → Frame → List Placed
placed_left t f =
    placed_from t.shapes.now f.place (list_view f.list.now.id) f.next (parts_left f)

-- steps are those of the only reading of an object by the parts of a list that are still to come
pub record AreLeftIn (t : Tables) (nodes : Nodes) (o : read.Object) (f : Frame) (steps : List Step)
    : Type 0 where
  pub below : IsBelow t o f.list.now
  pub only :
      IsOnly
      (ReadsParts (rules_at t) (ReadsValue (rules_at t)) (object_view nodes o) (parts_left f))
  pub steps_are : steps ≡ steps_of (walk_at t) only.value (placed_left t f)

-- steps of one and of another
pub record AreBothSteps (S T : List Step → Type 0) (steps : List Step) : Type 0 where
  pub first : List Step
  pub second : List Step
  pub are_first : S first
  pub are_second : T second
  pub steps_are : steps ≡ first ++ second

-- the same of several lists, of which the last one comes first
abbrev pub AreLeft : Tables → Nodes → read.Object → List Frame → List Step → Type 0
AreLeft t nodes o [] steps = steps ≡ []
AreLeft t nodes o (f ∷ fs) steps =
    AreBothSteps (AreLeft t nodes o fs) (AreLeftIn t nodes o f) steps

-- the counts of the lists that the choices of an object's list go through, where they are known
abbrev pub AreKnownCounts : Tables → Nodes → read.Object → Option (Vec Count Global) → Type 0
AreKnownCounts t nodes o None = ⊤
AreKnownCounts t nodes o (Some counts) =
    AreListCounts t nodes o counts.items × (length counts.items ≡ length o.list.now.below.items)

-- some lists, and one inside them, if there is one
abbrev pub with_inner : List Frame → Option Frame → List Frame
with_inner outer None = outer
with_inner outer (Some inner) = outer ++ inner ∷ []

-- steps in memory are the first ones of a reading of an object by its list, and at each the object
-- has one reading; the others are those of lists that are under way
pub record IsUnderWay (t : Tables) (nodes : Nodes) (o : read.Object) (frames : List Frame)
    (found : List code.Step) : Type 0 where
  pub choice : Choice
  pub reads :
      ReadsList (rules_at t) (ReadsValue (rules_at t)) (object_view nodes o)
      (list_view o.list.now.id) choice
  pub steps : List Step
  pub others : List Step
  pub all : steps_through (walk_at t) (list_view o.list.now.id) choice ≡ steps ++ others
  pub planned : map planned_of steps ≡ map step_view found
  pub only : All (IsOnlyStep (rules_at t) (ReadsValue (rules_at t)) (object_view nodes o)) steps
  pub served : All (StepIsServed t) (map step_view found)
  pub left : AreLeft t nodes o frames others

-- steps come behind those in memory
pub record ComeBehind (more : List Step) (old new : List code.Step) : Type 0 where
  pub taken : List code.Step
  pub taken_are : map planned_of more ≡ map step_view taken
  pub steps_are : new ≡ old ++ taken

-- the variant that a branch at a path selects, if it is one, comes behind the steps in memory
abbrev pub IsSelected : Path → ListId → List code.Step → List code.Step → Type 0
IsSelected path id old new = ComeBehind (selected path id) old new

-- the absence of a selection at a path, if it is of an enum, comes behind the steps in memory
abbrev pub IsLeftOut : Path → Selection → List code.Step → List code.Step → Type 0
IsLeftOut path s old new = ComeBehind (absence path s) old new

-- the list of a branch at a place comes behind those that are under way, unless it tells nothing
pub record IsEntered (t : Tables) (id : ListId) (place : Path) (old new : List Frame) : Type 0 where
  pub frame : Frame
  pub index : ℕ
  pub is_at : index_of t.slots id ≡ Some index
  pub listed : slice_get t.lists.items index ≡ Some frame.list.now
  pub same : list_view frame.list.now.id ≡ id
  pub first : frame.next ≡ 0
  pub place_is : frame.place ≡ place
  pub frames_are : (new ≡ old ++ frame ∷ []) ⊎ ((new ≡ old) × TellsNothing t frame.list.now)

-- the list of a branch at a place comes inside whichever are under way, unless it tells nothing
abbrev pub IsInnermost : Tables → ListId → Path → Option Frame → Type 0
IsInnermost t id place inner =
    (outer : List Frame) → IsEntered t id place outer (with_inner outer inner)

-- an object has one reading by the parts of a list that are still to come
abbrev pub IsOnlyLeft : Tables → Nodes → read.Object → Frame → Type 0
IsOnlyLeft t nodes o f =
    IsOnly (ReadsParts (rules_at t) (ReadsValue (rules_at t)) (object_view nodes o) (parts_left f))

-- steps in memory are the first ones of the reading of an object by its list, where it has one; and
-- it has one where it has one at each of them, and by each list that is under way
pub record IsGoing (t : Tables) (nodes : Nodes) (o : read.Object) (frames : List Frame)
    (found : List code.Step) : Type 0 where
  pub below : All (λ f. IsBelow t o f.list.now) frames
  pub served : All (StepIsServed t) (map step_view found)
  pub under_way : IsListCount t nodes o o.list.now One → IsUnderWay t nodes o frames found
  pub one :
      All (IsOnlyLeft t nodes o) frames → All (IsOnlyPlanned t nodes o) (map step_view found)
      → IsListCount t nodes o o.list.now One
