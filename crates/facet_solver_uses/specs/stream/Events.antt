-- What the events of a document tell a solver, and what a reader of them answers.
use Rattle.std.specs.Prelude.{◌≡◌, ◌≢◌, ◌++◌, ◌+◌, ◌&&◌, ℕ, Bool, true, false, List, [], ◌∷◌, Result, Ok, Err, fold, if◌then◌else◌, length, take, ⊤}
use Rattle.facet_solver.specs.Names.{Name}
use Rattle.facet_solver.specs.schema.Schema.{SchemaView}
use Rattle.facet_solver.specs.solver.Report.{viable}
use Rattle.facet_solver.specs.solver.State.{State, new_solver}
use Rattle.facet_solver.specs.declared.ResolutionHandle.{ResolutionHandle}
use Rattle.facet_solver.specs.declared.SolverError.TheVariants.{OutOfMemory}
use Rattle.facet_solver_uses.specs.KeysToChoice.{IsChoiceVerdict}
use Rattle.facet_solver_uses.specs.stream.Place.{PlaceView, beginning, behind, in_list, may_stand}
use Rattle.facet_solver_uses.specs.stream.Tell.{Part, a_key, a_scalar, a_text, tell_all}
use Rattle.facet_solver_uses.specs.declared.stream.event.Event.{Event}
use Rattle.facet_solver_uses.specs.declared.stream.event.Event.TheVariants.{Key, Scalar, Text}
use Rattle.facet_solver_uses.specs.declared.stream.event.Unread.{Unread}
use Rattle.facet_solver_uses.specs.declared.stream.event.Unread.TheVariants.{Misplaced, Unfinished, Solver}

-- the part that an event brings, where it lies in no list: brackets bring none
abbrev pub part_outside_lists : Event → List Name → List Part
part_outside_lists (Key key) path = a_key path key.now ∷ []
part_outside_lists (Scalar shapes) path = a_scalar path shapes.now ∷ []
part_outside_lists (Text text shapes) path = a_text path text.now shapes.now ∷ []
part_outside_lists bracket path = []

-- the part that an event brings at a place: none in a list
abbrev pub part_at : Event → PlaceView → List Part
part_at event place = if in_list place then [] else part_outside_lists event place.path

-- the parts that events bring, from a place on
abbrev pub parts_from : PlaceView → List Event → List Part
parts_from place [] = []
parts_from place (event ∷ events) =
    part_at event place ++ parts_from (behind event place) events

-- the place behind events
abbrev pub place_behind : PlaceView → List Event → PlaceView
place_behind place events = fold (λ now event. behind event now) place events

-- whether each of some events may stand where it comes
abbrev pub well_placed : PlaceView → List Event → Bool
well_placed place [] = true
well_placed place (event ∷ events) =
    may_stand event place && well_placed (behind event place) events

-- what a reader is: the state of its solver, and its place
pub record Reading : Type 0 where
  pub state : State
  pub place : PlaceView

-- an event is read: the part that it brings is told, and the place is the one behind it
abbrev pub read : Event → Reading → Reading
read event r = record {
  state = tell_all (part_at event r.place) r.state;
  place = behind event r.place;
}

-- a reader that has read nothing
abbrev pub new_reader : SchemaView → Reading
new_reader schema = record { state = new_solver schema; place = beginning }

-- a new reader has read events, one after another
abbrev pub read_all : SchemaView → List Event → Reading
read_all schema events = fold (λ now event. read event now) (new_reader schema) events

-- events are a whole document: each may stand where it comes, and at the end nothing is open
abbrev pub IsWhole : List Event → Type 0
IsWhole events =
    (well_placed beginning events ≡ true) × ((place_behind beginning events).frames ≡ [])

-- events may stand where they come, and at the end something is open
abbrev pub IsUnfinished : List Event → Type 0
IsUnfinished events =
    (well_placed beginning events ≡ true) × ((place_behind beginning events).frames ≢ [])

-- the events before an index may stand where they come, and the one at the index may not
abbrev pub IsFirstMisplaced : List Event → ℕ → Type 0
IsFirstMisplaced events index =
    (well_placed beginning (take index events) ≡ true)
    × (well_placed beginning (take (index + 1) events) ≡ false)

-- a new solver was told what the events of a document bring
abbrev pub told : SchemaView → List Event → State
told schema events = tell_all (parts_from beginning events) (new_solver schema)

-- how a reader ends: by the verdict of its solver, or the document is unfinished. There is an error
-- of the solver only where not one candidate alone is viable, also for want of memory
abbrev pub Ends : Reading → Result ResolutionHandle Unread → Type 0
Ends r (Ok handle) = (r.place.frames ≡ []) × IsChoiceVerdict r.state (Ok handle)
Ends r (Err (Misplaced index)) = ⊥
Ends r (Err Unfinished) = r.place.frames ≢ []
Ends r (Err (Solver error)) =
    (r.place.frames ≡ []) × IsChoiceVerdict r.state (Err error) × (length (viable r.state) ≢ 1)

-- what the events of a document come to: a verdict is that on what a whole document brings; memory
-- may run out at any time
abbrev pub Streams : SchemaView → List Event → Result ResolutionHandle Unread → Type 0
Streams schema events (Ok handle) =
    IsWhole events × IsChoiceVerdict (told schema events) (Ok handle)
Streams schema events (Err (Misplaced index)) = IsFirstMisplaced events index
Streams schema events (Err Unfinished) = IsUnfinished events
Streams schema events (Err (Solver OutOfMemory)) = ⊤
Streams schema events (Err (Solver error)) =
    IsWhole events × IsChoiceVerdict (told schema events) (Err error)
