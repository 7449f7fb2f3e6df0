-- Events that lead from the beginning to an end at which nothing is open are those of a document.
use Rattle.std.proofs.Common.{◌≡◌, ◌⊎◌, inl, inr, ℕ, zero, suc, refl, arith, ◌+◌, ◌-◌, ◌<◌, ◌≤◌, true, false, List, [], ◌∷◌, ◌++◌, ap, sym, ◌∙◌, subst, length}
use Rattle.std.specs.Prelude.{Option, Some, None, Result, Ok, Err, slice_get, ⊤}
use denote.Bor.{Bor}
use Rattle.facet_solver.specs.Names.{Name}
use Rattle.std.proofs.lemmas.Bool.{and_parts, false≢true}
use Rattle.std.proofs.lemmas.List.{append-nil, append_assoc}
use Rattle.facet_solver.specs.schema.Schema.{SchemaView}
use Rattle.facet_solver.specs.solver.State.{State}
use Rattle.facet_solver.specs.declared.ResolutionHandle.{ResolutionHandle}
use Rattle.facet_solver.specs.declared.SolverError.TheVariants.{OutOfMemory}
use Rattle.facet_solver_uses.specs.KeysToChoice.{IsChoiceVerdict}
use Rattle.facet_solver_uses.specs.stream.Documents.{Value, Members, Items, scalar, text, object, list, no_members, member, no_items, item, events_of, member_events, item_events, IsDocument, ReadsDocuments}
use Rattle.facet_solver_uses.specs.stream.Place.{PlaceView, at, behind, innermost, may_stand, may_stand_in, value_ended, value_ended_in}
use Rattle.facet_solver_uses.specs.stream.Events.{IsWhole, Streams, place_behind, well_placed}
use Rattle.facet_solver_uses.specs.declared.stream.event.Event.{Event}
use Rattle.facet_solver_uses.specs.declared.stream.event.Event.TheVariants.{Key, Object as ObjectBegins, List as ListBegins, Scalar, Text, End}
use Rattle.facet_solver_uses.specs.declared.stream.place.Frame.{Frame}
use Rattle.facet_solver_uses.specs.declared.stream.place.Frame.TheVariants.{Document, Object as InObject, Member, List as InList}
use Rattle.facet_solver_uses.specs.declared.stream.event.Unread.{Unread}
use Rattle.facet_solver_uses.specs.declared.stream.event.Unread.TheVariants.{Misplaced, Unfinished, Solver}
use Rattle.facet_solver_uses.proofs.Documents.{last_gone, last_is, member_ends, not_misplaced, told_as_document, whole_document}

-- events may stand from a place on, and at their end nothing is open
record Finishes (p : PlaceView) (events : List Event) : Type 0 where
  placed : well_placed p events ≡ true
  closed : (place_behind p events).frames ≡ []

-- events begin with those of a part, and the others go on to the end from the place behind it
record Parsed (A : Type 0) (made_of : A → List Event) (events : List Event) (after : PlaceView) : Type 0 where
  part : A
  rest : List Event
  is : events ≡ made_of part ++ rest
  finishes : Finishes after rest
  shorter : length rest < length events

-- ---- what can't be
finishes_behind : (event : Event) (events : List Event) (p : PlaceView) → Finishes p (event ∷ events) → (may_stand event p ≡ true) × Finishes (behind event p) events
finishes_behind event events p h =
    let both = and_parts (may_stand event p) (well_placed (behind event p) events) h.placed in
    (both.0, record { placed = both.1; closed = h.closed })

not_there : (event : Event) (frame there : Option Frame) → frame ≡ there → may_stand_in event there ≡ false → may_stand_in event frame ≡ true → ⊥
not_there event frame there same can_not can = false≢true (sym (ap (may_stand_in event) same ∙ can_not) ∙ can)

nothing_open : (p : PlaceView) (frame : Frame) → innermost p ≡ Some frame → p.frames ≡ [] → ⊥
nothing_open p frame there closed =
    let none : innermost p ≡ None = ap (λ (frames : List Frame). slice_get frames (length frames - 1)) closed in
    cc

no_key : (key : Event) (frame : Option Frame) → (frame ≡ Some Member) ⊎ (frame ≡ Some InList) → may_stand_in key (Some Member) ≡ false → may_stand_in key (Some InList) ≡ false → may_stand_in key frame ≡ true → ⊥
no_key key frame (inl e) in_member in_a_list can = not_there key frame (Some Member) e in_member can
no_key key frame (inr e) in_member in_a_list can = not_there key frame (Some InList) e in_a_list can

some_open : (p : PlaceView) → (innermost p ≡ Some Member) ⊎ (innermost p ≡ Some InList) → p.frames ≡ [] → ⊥
some_open p (inl e) closed = nothing_open p Member e closed
some_open p (inr e) closed = nothing_open p InList e closed

abbrev NotEnd : List Event → Type 0
NotEnd (End ∷ events) = ⊥
NotEnd events = ⊤

no_end : (events : List Event) (p : PlaceView) → innermost p ≡ Some Member → Finishes p events → NotEnd events
no_end [] p under h = tt
no_end (Key key ∷ events) p under h = tt
no_end (ObjectBegins ∷ events) p under h = tt
no_end (ListBegins ∷ events) p under h = tt
no_end (Scalar shapes ∷ events) p under h = tt
no_end (Text bytes shapes ∷ events) p under h = tt
no_end (End ∷ events) p under h = not_there End (innermost p) (Some Member) under refl (finishes_behind End events p h).0

-- ---- the parts of a document
joined : (events first behind_it second rest : List Event) → events ≡ first ++ behind_it → behind_it ≡ second ++ rest → events ≡ (first ++ second) ++ rest
joined events first behind_it second rest is more =
    is ∙ ap (λ (es : List Event). first ++ es) more ∙ sym (append_assoc first second rest)

joined_by_key : (key : Bor Name) (events first behind_it second rest : List Event) → events ≡ first ++ behind_it → behind_it ≡ second ++ rest → Key key ∷ events ≡ Key key ∷ ((first ++ second) ++ rest)
joined_by_key key events first behind_it second rest is more =
    ap (λ (es : List Event). Key key ∷ es) (joined events first behind_it second rest is more)

mutual
  value_of : (n : ℕ) (events : List Event) (p : PlaceView) → length events + length events ≤ n → (innermost p ≡ Some Member) ⊎ (innermost p ≡ Some InList) → NotEnd events → Finishes p events → Parsed Value events_of events (value_ended p)
  value_of n [] p low takes begins h = absurd (some_open p takes h.closed)
  value_of zero (event ∷ events) p low takes begins h = absurd (omega arith)
  value_of (suc n) (Scalar shapes ∷ events) p low takes begins h = record {
    part = scalar shapes;
    rest = events;
    is = refl;
    finishes = (finishes_behind (Scalar shapes) events p h).1;
    shorter = omega arith;
  }
  value_of (suc n) (Text bytes shapes ∷ events) p low takes begins h = record {
    part = text bytes shapes;
    rest = events;
    is = refl;
    finishes = (finishes_behind (Text bytes shapes) events p h).1;
    shorter = omega arith;
  }
  value_of (suc n) (ObjectBegins ∷ events) p low takes begins h =
      let o : PlaceView = at (p.frames ++ InObject ∷ []) p.path in
      let inside : Parsed Members member_events events (behind End o) = members_of n events o (omega arith) (last_is p.frames InObject) (finishes_behind ObjectBegins events p h).1 in
      record {
        part = object inside.part;
        rest = inside.rest;
        is = ap (λ (es : List Event). ObjectBegins ∷ es) inside.is;
        finishes = subst (λ (q : PlaceView). Finishes q inside.rest) (ap (λ (frames : List Frame). value_ended (at frames p.path)) (last_gone p.frames InObject)) inside.finishes;
        shorter = omega (arith, inside.shorter);
      }
  value_of (suc n) (ListBegins ∷ events) p low takes begins h =
      let l : PlaceView = at (p.frames ++ InList ∷ []) p.path in
      let inside : Parsed Items item_events events (behind End l) = items_of n events l (omega arith) (last_is p.frames InList) (finishes_behind ListBegins events p h).1 in
      record {
        part = list inside.part;
        rest = inside.rest;
        is = ap (λ (es : List Event). ListBegins ∷ es) inside.is;
        finishes = subst (λ (q : PlaceView). Finishes q inside.rest) (ap (λ (frames : List Frame). value_ended (at frames p.path)) (last_gone p.frames InList)) inside.finishes;
        shorter = omega (arith, inside.shorter);
      }
  value_of (suc n) (Key key ∷ events) p low takes begins h = absurd (no_key (Key key) (innermost p) takes refl refl (finishes_behind (Key key) events p h).0)
  value_of (suc n) (End ∷ events) p low takes begins h = absurd begins

  members_of : (n : ℕ) (events : List Event) (o : PlaceView) → length events + length events ≤ n → innermost o ≡ Some InObject → Finishes o events → Parsed Members member_events events (behind End o)
  members_of n [] o low inside h = absurd (nothing_open o InObject inside h.closed)
  members_of zero (event ∷ events) o low inside h = absurd (omega arith)
  members_of (suc n) (End ∷ events) o low inside h = record {
    part = no_members;
    rest = events;
    is = refl;
    finishes = (finishes_behind End events o h).1;
    shorter = omega arith;
  }
  members_of (suc n) (Key key ∷ events) o low inside h =
      let m : PlaceView = behind (Key key) o in
      let later : Finishes m events = (finishes_behind (Key key) events o h).1 in
      let under : innermost m ≡ Some Member = last_is o.frames Member in
      let value : Parsed Value events_of events (value_ended m) = value_of n events m (omega arith) (inl under) (no_end events m under later) later in
      let others : Parsed Members member_events value.rest (behind End o) = members_of n value.rest o (omega (arith, value.shorter)) inside (subst (λ (q : PlaceView). Finishes q value.rest) (member_ends key o) value.finishes) in
      record {
        part = member key value.part others.part;
        rest = others.rest;
        is = joined_by_key key events (events_of value.part) value.rest (member_events others.part) others.rest value.is others.is;
        finishes = others.finishes;
        shorter = omega (arith, value.shorter, others.shorter);
      }
  members_of (suc n) (ObjectBegins ∷ events) o low inside h = absurd (not_there ObjectBegins (innermost o) (Some InObject) inside refl (finishes_behind ObjectBegins events o h).0)
  members_of (suc n) (ListBegins ∷ events) o low inside h = absurd (not_there ListBegins (innermost o) (Some InObject) inside refl (finishes_behind ListBegins events o h).0)
  members_of (suc n) (Scalar shapes ∷ events) o low inside h = absurd (not_there (Scalar shapes) (innermost o) (Some InObject) inside refl (finishes_behind (Scalar shapes) events o h).0)
  members_of (suc n) (Text bytes shapes ∷ events) o low inside h = absurd (not_there (Text bytes shapes) (innermost o) (Some InObject) inside refl (finishes_behind (Text bytes shapes) events o h).0)

  items_of : (n : ℕ) (events : List Event) (l : PlaceView) → suc (length events + length events) ≤ n → innermost l ≡ Some InList → Finishes l events → Parsed Items item_events events (behind End l)
  items_of n [] l low inside h = absurd (nothing_open l InList inside h.closed)
  items_of zero (event ∷ events) l low inside h = absurd (omega arith)
  items_of (suc n) (End ∷ events) l low inside h = record {
    part = no_items;
    rest = events;
    is = refl;
    finishes = (finishes_behind End events l h).1;
    shorter = omega arith;
  }
  items_of (suc n) (event ∷ events) l low inside h =
      let value : Parsed Value events_of (event ∷ events) (value_ended l) = value_of n (event ∷ events) l (omega arith) (inr inside) tt h in
      let back : value_ended l ≡ l = ap (λ (frame : Option Frame). value_ended_in frame l) inside in
      let others : Parsed Items item_events value.rest (behind End l) = items_of n value.rest l (omega (arith, value.shorter)) inside (subst (λ (q : PlaceView). Finishes q value.rest) back value.finishes) in
      record {
        part = item value.part others.part;
        rest = others.rest;
        is = joined (event ∷ events) (events_of value.part) value.rest (item_events others.part) others.rest value.is others.is;
        finishes = others.finishes;
        shorter = omega (arith, value.shorter, others.shorter);
      }

-- ---- a whole document
none_stands : (event : Event) → may_stand_in event None ≡ false
none_stands (Key key) = refl
none_stands ObjectBegins = refl
none_stands ListBegins = refl
none_stands (Scalar shapes) = refl
none_stands (Text bytes shapes) = refl
none_stands End = refl

ends_there : (rest : List Event) → Finishes (at [] []) rest → rest ≡ []
ends_there [] h = refl
ends_there (event ∷ events) h = absurd (not_there event None None refl (none_stands event) (finishes_behind event events (at [] []) h).0)

document_of : (events : List Event) → IsWhole events → IsDocument events
document_of [] whole = let closed : Document ∷ [] ≡ [] = whole.1 in absurd (cc)
document_of (ObjectBegins ∷ events) whole =
    let o : PlaceView = at (Document ∷ InObject ∷ []) [] in
    let inside : Parsed Members member_events events (at [] []) = members_of (length events + length events) events o (omega arith) refl (record { placed = whole.0; closed = whole.1 }) in (
      inside.part,
      ap (λ (es : List Event). ObjectBegins ∷ es)
          (inside.is ∙ ap (λ (es : List Event). member_events inside.part ++ es) (ends_there inside.rest inside.finishes)
          ∙ append-nil (member_events inside.part)),
    )
document_of (Key key ∷ events) whole = absurd (false≢true whole.0)
document_of (ListBegins ∷ events) whole = absurd (false≢true whole.0)
document_of (Scalar shapes ∷ events) whole = absurd (false≢true whole.0)
document_of (Text bytes shapes ∷ events) whole = absurd (false≢true whole.0)
document_of (End ∷ events) whole = absurd (false≢true whole.0)

-- what events come to, by what they are
pub reads_documents : (schema : SchemaView) (events : List Event) (answer : Result ResolutionHandle Unread) → Streams schema events answer → ReadsDocuments schema events answer
reads_documents schema events (Ok handle) h = record {
  is_document = document_of events h.0;
  verdict = λ members is. subst (λ (s : State). IsChoiceVerdict s (Ok handle)) (told_as_document schema events members is) h.1;
}
reads_documents schema events (Err (Misplaced index)) h = λ document. not_misplaced events index document h
reads_documents schema events (Err Unfinished) h = λ document. h.1 (whole_document events document).1
reads_documents schema events (Err (Solver OutOfMemory)) h = tt
reads_documents schema events (Err (Solver error)) h = record {
  is_document = document_of events h.0;
  verdict = λ members is. subst (λ (s : State). IsChoiceVerdict s (Err error)) (told_as_document schema events members is) h.1;
}
