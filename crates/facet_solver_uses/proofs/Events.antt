-- Events that are read one after another, and what the end of a reader says of them.
use Rattle.std.proofs.Common.{◌≡◌, ℕ, refl, ◌+◌, ◌<◌, ◌≤◌, Bool, true, false, ◌&&◌, List, [], ◌∷◌, ◌++◌, ap, sym, ◌∙◌, subst, get_or, length, take}
use Rattle.std.specs.Prelude.{Result, Ok, Err, fold}
use Rattle.std.proofs.lemmas.List.{append-nil, append_assoc, take_all, take_more}
use Rattle.std.proofs.lemmas.List.Sums.{fold-append, fold_push}
use Rattle.std.proofs.Math.Bool.{and-true}
use Rattle.facet_solver_uses.specs.stream.Tell.{Part, tell, tell_all}
use Rattle.facet_solver.specs.schema.Schema.{SchemaView}
use Rattle.facet_solver.specs.solver.State.{State, new_solver}
use Rattle.facet_solver.specs.declared.ResolutionHandle.{ResolutionHandle}
use Rattle.facet_solver.specs.declared.SolverError.TheVariants.{OutOfMemory}
use Rattle.facet_solver_uses.specs.stream.Place.{PlaceView, beginning, behind, may_stand}
use Rattle.facet_solver_uses.specs.stream.Events.{Ends, Reading, Streams, new_reader, part_at, parts_from, place_behind, read, read_all, told, well_placed}
use Rattle.facet_solver_uses.specs.declared.stream.event.Event.{Event}
use Rattle.facet_solver_uses.specs.declared.stream.event.Unread.{Unread}
use Rattle.facet_solver_uses.specs.declared.stream.event.Unread.TheVariants.{Misplaced, Unfinished, Solver}

-- what a reader is that read events from the beginning
abbrev pub reading_of : SchemaView → List Event → Reading
reading_of schema events = record {
  state = told schema events;
  place = place_behind beginning events;
}

-- a reader reads events one after another
reads_from : (r : Reading) (events : List Event) → fold (λ now event. read event now) r events ≡ record { state = tell_all (parts_from r.place events) r.state; place = place_behind r.place events }
reads_from r [] = refl
reads_from r (event ∷ events) =
    reads_from (read event r) events
    ∙ ap (λ (s : State). record { state = s; place = place_behind (behind event r.place) events })
    (sym (fold-append (λ s part. tell part s) r.state (part_at event r.place) (parts_from (behind event r.place) events)))

-- so a new reader that has read them is this one
pub reads_all : (schema : SchemaView) (events : List Event) → read_all schema events ≡ reading_of schema events
reads_all schema events = reads_from (new_reader schema) events

-- the parts of events behind others
pub parts_append : (place : PlaceView) (xs ys : List Event) → parts_from place (xs ++ ys) ≡ parts_from place xs ++ parts_from (place_behind place xs) ys
parts_append place [] ys = refl
parts_append place (event ∷ xs) ys =
    ap (λ parts. part_at event place ++ parts) (parts_append (behind event place) xs ys)
    ∙ sym (append_assoc (part_at event place) (parts_from (behind event place) xs) (parts_from (place_behind (behind event place) xs) ys))

-- one more event brings its parts behind those before
parts_push : (place : PlaceView) (events : List Event) (event : Event) → parts_from place (events ++ event ∷ []) ≡ parts_from place events ++ part_at event (place_behind place events)
parts_push place events event =
    parts_append place events (event ∷ [])
    ∙ ap (λ (parts : List Part). parts_from place events ++ parts) (append-nil (part_at event (place_behind place events)))

-- a reader that reads one more event
reading_push : (schema : SchemaView) (events : List Event) (event : Event) → reading_of schema (events ++ event ∷ []) ≡ read event (reading_of schema events)
reading_push schema events event =
    let now : PlaceView = place_behind beginning events in
    let state : told schema (events ++ event ∷ []) ≡ tell_all (part_at event now) (told schema events) =
    ap (λ parts. tell_all parts (new_solver schema)) (parts_push beginning events event)
    ∙ fold-append (λ s part. tell part s) (new_solver schema) (parts_from beginning events) (part_at event now) in
    let place : place_behind beginning (events ++ event ∷ []) ≡ behind event now = fold_push (λ p e. behind e p) beginning events event in
    cc

-- so at an index
pub reading_more : (schema : SchemaView) (events : List Event) (i : ℕ) (d : Event) → i < length events → reading_of schema (take (i + 1) events) ≡ read (get_or events i d) (reading_of schema (take i events))
reading_more schema events i d low =
    ap (λ (es : List Event). reading_of schema es) (take_more events i d low) ∙ reading_push schema (take i events) (get_or events i d)

and_assoc : (a b c : Bool) → (a && (b && c)) ≡ ((a && b) && c)
and_assoc true b c = refl
and_assoc false b c = refl

-- whether events may stand behind others
pub placed_append : (place : PlaceView) (xs ys : List Event) → well_placed place (xs ++ ys) ≡ (well_placed place xs && well_placed (place_behind place xs) ys)
placed_append place [] ys = refl
placed_append place (event ∷ xs) ys =
    ap (λ (b : Bool). may_stand event place && b) (placed_append (behind event place) xs ys)
    ∙ and_assoc (may_stand event place) (well_placed (behind event place) xs) (well_placed (place_behind (behind event place) xs) ys)

-- one more event, which may stand where it comes or not
placed_push : (place : PlaceView) (events : List Event) (event : Event) → well_placed place (events ++ event ∷ []) ≡ (well_placed place events && may_stand event (place_behind place events))
placed_push place events event =
    placed_append place events (event ∷ [])
    ∙ ap (λ (b : Bool). well_placed place events && b) (and-true (may_stand event (place_behind place events)))

-- so at an index, where those before may stand
pub placed_more : (events : List Event) (i : ℕ) (d : Event) → i < length events → well_placed beginning (take i events) ≡ true → well_placed beginning (take (i + 1) events) ≡ may_stand (get_or events i d) (place_behind beginning (take i events))
placed_more events i d low placed =
    ap (λ (es : List Event). well_placed beginning es) (take_more events i d low)
    ∙ placed_push beginning (take i events) (get_or events i d)
    ∙ ap (λ (b : Bool). b && may_stand (get_or events i d) (place_behind beginning (take i events))) placed

-- how a reader ends that read all events is what they come to
streams_by_end : (schema : SchemaView) (events : List Event) (answer : Result ResolutionHandle Unread) → well_placed beginning events ≡ true → Ends (reading_of schema events) answer → Streams schema events answer
streams_by_end schema events (Ok handle) placed ends = ((placed, ends.0), ends.1)
streams_by_end schema events (Err (Misplaced index)) placed ends = absurd ends
streams_by_end schema events (Err Unfinished) placed ends = (placed, ends)
streams_by_end schema events (Err (Solver OutOfMemory)) placed ends = tt
streams_by_end schema events (Err (Solver error)) placed ends = ((placed, ends.0), ends.1)

-- also where their number was counted
pub streams_all : (schema : SchemaView) (events : List Event) (i : ℕ) (reader : Reading) (answer : Result ResolutionHandle Unread) → length events ≤ i → reader ≡ reading_of schema (take i events) → well_placed beginning (take i events) ≡ true → Ends reader answer → Streams schema events answer
streams_all schema events i reader answer all is placed ends =
    let same = take_all i events all in
    streams_by_end schema events answer
    (subst (λ (es : List Event). well_placed beginning es ≡ true) same placed)
    (subst (λ (r : Reading). Ends r answer) (is ∙ ap (λ (es : List Event). reading_of schema es) same) ends)
