-- Documents as trees, the events that they come as, and what they tell a solver.
use Rattle.std.specs.Prelude.{◌≡◌, ◌++◌, ℕ, List, [], ◌∷◌, Result, Ok, Err, ⊤}
use denote.Bor.{Bor}
use Rattle.facet_solver.specs.Names.{Name}
use Rattle.facet_solver.specs.schema.Schema.{SchemaView}
use Rattle.facet_solver.specs.solver.State.{State, new_solver}
use Rattle.facet_solver.specs.declared.ResolutionHandle.{ResolutionHandle}
use Rattle.facet_solver.specs.declared.SolverError.{SolverError}
use Rattle.facet_solver.specs.declared.SolverError.TheVariants.{OutOfMemory}
use Rattle.facet_solver_uses.specs.KeysToChoice.{IsChoiceVerdict}
use Rattle.facet_solver_uses.specs.stream.Tell.{Part, a_key, a_scalar, a_text, tell_all}
use Rattle.facet_solver_uses.specs.declared.stream.event.Event.{Event}
use Rattle.facet_solver_uses.specs.declared.stream.event.Event.TheVariants.{Key, Object as ObjectBegins, List as ListBegins, Scalar, Text, End}
use Rattle.facet_solver_uses.specs.declared.stream.event.Unread.{Unread}
use Rattle.facet_solver_uses.specs.declared.stream.event.Unread.TheVariants.{Misplaced, Unfinished, Solver}

-- a value of a document, the members of an object, and the items of a list: names, texts, and the
-- shapes that a value fits, lie behind references
mutual
  pub data Value : Type 0 where
    scalar : Bor (List ℕ) → Value
    text : Bor Name → Bor (List ℕ) → Value
    object : Members → Value
    list : Items → Value

  pub data Members : Type 0 where
    no_members : Members
    member : Bor Name → Value → Members → Members

  pub data Items : Type 0 where
    no_items : Items
    item : Value → Items → Items

-- the events that each of them comes as, with the end of the object or the list
abbrev mutual
  pub events_of : Value → List Event
  events_of (scalar shapes) = Scalar shapes ∷ []
  events_of (text bytes shapes) = Text bytes shapes ∷ []
  events_of (object members) = ObjectBegins ∷ member_events members
  events_of (list items) = ListBegins ∷ item_events items

  pub member_events : Members → List Event
  member_events no_members = End ∷ []
  member_events (member key value members) =
      Key key ∷ (events_of value ++ member_events members)

  pub item_events : Items → List Event
  item_events no_items = End ∷ []
  item_events (item value items) = events_of value ++ item_events items

-- what each of them has outside lists, at a path of keys
abbrev mutual
  pub parts_of : List Name → Value → List Part
  parts_of path (scalar shapes) = a_scalar path shapes.now ∷ []
  parts_of path (text bytes shapes) = a_text path bytes.now shapes.now ∷ []
  parts_of path (object members) = member_parts path members
  parts_of path (list items) = []

  pub member_parts : List Name → Members → List Part
  member_parts path no_members = []
  member_parts path (member key value members) =
      a_key path key.now
      ∷ (parts_of (path ++ key.now ∷ []) value ++ member_parts path members)

-- a new solver was told a document, which is an object
abbrev pub told_document : SchemaView → Members → State
told_document schema members = tell_all (member_parts [] members) (new_solver schema)

-- events are those of a document
abbrev pub IsDocument : List Event → Type 0
IsDocument events = (members : Members) × (events ≡ events_of (object members))

-- events are those of a document, and an answer is the verdict on what it tells
pub record IsRead
    (schema : SchemaView) (events : List Event) (answer : Result ResolutionHandle SolverError)
    : Type 0 where
  pub is_document : IsDocument events
  pub verdict : (members : Members) → events ≡ events_of (object members)
      → IsChoiceVerdict (told_document schema members) answer

-- an answer is the verdict on a document, or events are not those of one; memory may run out at any
-- time
abbrev pub ReadsDocuments : SchemaView → List Event → Result ResolutionHandle Unread → Type 0
ReadsDocuments schema events (Ok handle) = IsRead schema events (Ok handle)
ReadsDocuments schema events (Err (Misplaced index)) = ¬ IsDocument events
ReadsDocuments schema events (Err Unfinished) = ¬ IsDocument events
ReadsDocuments schema events (Err (Solver OutOfMemory)) = ⊤
ReadsDocuments schema events (Err (Solver error)) = IsRead schema events (Err error)
