-- The events of a document lead through it to its end, and mean its parts.
use Rattle.std.proofs.Common.{◌≡◌, ◌⊎◌, inl, inr, ℕ, refl, arith, ◌+◌, ◌-◌, Bool, true, false, ◌&&◌, ◌||◌, cond, List, [], ◌∷◌, ◌++◌, ap, sym, ◌∙◌, subst, length, take, drop}
use Rattle.std.specs.List.{list_any}
use Rattle.std.specs.Prelude.{Option, Some, slice_get}
use denote.Bor.{Bor}
use Rattle.std.proofs.lemmas.Bool.{and_parts, false≢true}
use Rattle.std.proofs.lemmas.List.{append-nil, get_or_at, length_push, take-append-drop, take_at}
use Rattle.std.proofs.lemmas.Option.{slice_get_read}
use Rattle.std.proofs.lemmas.List.Folds.{list_any-append}
use Rattle.std.proofs.lemmas.List.Sums.{fold-append}
use Rattle.std.proofs.Math.Bool.{or-false, or-true}
use Rattle.facet_solver.specs.Names.{Name}
use Rattle.facet_solver_uses.specs.stream.Tell.{Part, a_key, tell_all}
use Rattle.facet_solver.specs.schema.Schema.{SchemaView}
use Rattle.facet_solver.specs.solver.State.{new_solver}
use Rattle.facet_solver_uses.specs.stream.Documents.{Value, Members, Items, scalar, text, object, list, no_members, member, no_items, item, events_of, member_events, item_events, parts_of, member_parts, told_document, IsDocument}
use Rattle.facet_solver_uses.specs.stream.Place.{PlaceView, at, beginning, behind, in_list, innermost, is_list, may_stand, may_stand_in, value_ended, value_ended_in, without_last}
use Rattle.facet_solver_uses.specs.stream.Events.{IsFirstMisplaced, IsWhole, part_at, parts_from, place_behind, told, well_placed}
use Rattle.facet_solver_uses.specs.declared.stream.event.Event.{Event}
use Rattle.facet_solver_uses.specs.declared.stream.event.Event.TheVariants.{Key, Object as ObjectBegins, List as ListBegins, Scalar, Text, End}
use Rattle.facet_solver_uses.specs.declared.stream.place.Frame.{Frame}
use Rattle.facet_solver_uses.specs.declared.stream.place.Frame.TheVariants.{Document, Object as InObject, Member, List as InList}
use Rattle.facet_solver_uses.proofs.Events.{parts_append, placed_append}

-- events may stand from a place on, lead to another, and mean parts
record Leads (before : PlaceView) (events : List Event) (after : PlaceView) (parts : List Part) : Type 0 where
  placed : well_placed before events ≡ true
  ends : place_behind before events ≡ after
  brings : parts_from before events ≡ parts

-- ---- one event, and events behind others
one_event : (event : Event) (p q : PlaceView) (parts : List Part) → may_stand event p ≡ true → behind event p ≡ q → part_at event p ≡ parts → Leads p (event ∷ []) q parts
one_event event p q parts stands ends brings = record {
  placed = ap (λ (b : Bool). b && true) stands;
  ends = ends;
  brings = ap (λ (cs : List Part). cs ++ []) brings ∙ append-nil parts;
}

then_events : (xs ys : List Event) (p q r : PlaceView) (cs ds : List Part) → Leads p xs q cs → Leads q ys r ds → Leads p (xs ++ ys) r (cs ++ ds)
then_events xs ys p q r cs ds first second =
    let there = first.ends in
    record {
      placed = placed_append p xs ys ∙ ap (λ (b : Bool). b && well_placed (place_behind p xs) ys) first.placed
          ∙ ap (λ (m : PlaceView). well_placed m ys) there ∙ second.placed;
      ends = fold-append (λ now event. behind event now) p xs ys ∙ ap (λ (m : PlaceView). place_behind m ys) there ∙ second.ends;
      brings = parts_append p xs ys
          ∙ ap (λ (before : List Part). before ++ parts_from (place_behind p xs) ys) first.brings
          ∙ ap (λ (m : PlaceView). cs ++ parts_from m ys) there
          ∙ ap (λ (later : List Part). cs ++ later) second.brings;
    }

-- the same, where they lead and what they mean is told otherwise
told_otherwise : (p q r : PlaceView) (events : List Event) (cs ds : List Part) → q ≡ r → cs ≡ ds → Leads p events q cs → Leads p events r ds
told_otherwise p q r events cs ds there same leads = record {
  placed = leads.placed;
  ends = leads.ends ∙ there;
  brings = leads.brings ∙ same;
}

-- ---- the last item of a list
pub last_gone : {X : Type 0} (xs : List X) (x : X) → without_last (xs ++ x ∷ []) ≡ xs
last_gone xs x = take_at xs (x ∷ []) (length (xs ++ x ∷ []) - 1) (omega (arith, length_push xs x))

pub last_is : {X : Type 0} (xs : List X) (x : X) → slice_get (xs ++ x ∷ []) (length (xs ++ x ∷ []) - 1) ≡ Some x
last_is xs x =
    slice_get_read (xs ++ x ∷ []) (length (xs ++ x ∷ [])) (length (xs ++ x ∷ []) - 1) x refl
    (omega (arith, length_push xs x))
    (sym (get_or_at xs x [] x (length (xs ++ x ∷ []) - 1) (omega (arith, length_push xs x))))

-- ---- parts outside lists alone

no_parts : (b : Bool) → cond {A = List Part} b [] [] ≡ []
no_parts true = refl
no_parts false = refl

parts_behind : (b inner : Bool) (parts : List Part) → inner ≡ b → cond {A = List Part} b [] [] ++ cond inner [] parts ≡ cond b [] parts
parts_behind b inner parts same = ap (λ (cs : List Part). cs ++ cond inner [] parts) (no_parts b) ∙ ap (λ (c : Bool). cond c [] parts) same

parts_of_member : (b inner : Bool) (part : Part) (parts others : List Part) → inner ≡ b → cond b [] (part ∷ []) ++ (cond inner [] parts ++ cond b [] others) ≡ cond b [] (part ∷ (parts ++ others))
parts_of_member b inner part parts others same =
    ap (λ (c : Bool). cond b [] (part ∷ []) ++ (cond c [] parts ++ cond b [] others)) same ∙ go b
  where
    go : (b : Bool) → cond b [] (part ∷ []) ++ (cond b [] parts ++ cond b [] others) ≡ cond b [] (part ∷ (parts ++ others))
    go true = refl
    go false = refl

-- what is no list lies in one where what is around it does
same_list : (frames : List Frame) (frame : Frame) → is_list frame ≡ false → list_any is_list (frames ++ frame ∷ []) ≡ list_any is_list frames
same_list frames frame plain =
    list_any-append is_list frames (frame ∷ [])
    ∙ ap (λ (b : Bool). list_any is_list frames || (b || false)) plain
    ∙ or-false (list_any is_list frames)

inside_list : (frames : List Frame) → list_any is_list (frames ++ InList ∷ []) ≡ true
inside_list frames = list_any-append is_list frames (InList ∷ []) ∙ or-true (list_any is_list frames)

-- ---- where a value may stand: under a key, or in a list
value_stands : (event : Event) (frame : Option Frame) → (frame ≡ Some Member) ⊎ (frame ≡ Some InList) → may_stand_in event (Some Member) ≡ true → may_stand_in event (Some InList) ≡ true → may_stand_in event frame ≡ true
value_stands event frame (inl e) under_key in_a_list = ap (may_stand_in event) e ∙ under_key
value_stands event frame (inr e) under_key in_a_list = ap (may_stand_in event) e ∙ in_a_list

-- the value of a member has ended
pub member_ends : (key : Bor Name) (o : PlaceView) → value_ended (behind (Key key) o) ≡ o
member_ends key o =
    let m : PlaceView = behind (Key key) o in
    ap (λ (frame : Option Frame). value_ended_in frame m) (last_is o.frames Member)
    ∙ ap (λ (frames : List Frame). at frames (without_last m.path)) (last_gone o.frames Member)
    ∙ ap (λ (path : List Name). at o.frames path) (last_gone o.path key.now)

mutual
  -- a value leads to its end
  value_leads : (value : Value) (p : PlaceView) → (innermost p ≡ Some Member) ⊎ (innermost p ≡ Some InList) → Leads p (events_of value) (value_ended p) (cond (in_list p) [] (parts_of p.path value))
  value_leads (scalar shapes) p takes = one_event (Scalar shapes) p (value_ended p) (cond (in_list p) [] (parts_of p.path (scalar shapes))) (value_stands (Scalar shapes) (innermost p) takes refl refl) refl refl
  value_leads (text bytes shapes) p takes = one_event (Text bytes shapes) p (value_ended p) (cond (in_list p) [] (parts_of p.path (text bytes shapes))) (value_stands (Text bytes shapes) (innermost p) takes refl refl) refl refl
  value_leads (object members) p takes =
      let o : PlaceView = at (p.frames ++ InObject ∷ []) p.path in
      told_otherwise p (behind End o) (value_ended p) (events_of (object members)) (cond (in_list p) [] [] ++ cond (in_list o) [] (member_parts p.path members)) (cond (in_list p) [] (member_parts p.path members))
      (ap (λ (frames : List Frame). value_ended (at frames p.path)) (last_gone p.frames InObject))
      (parts_behind (in_list p) (in_list o) (member_parts p.path members) (same_list p.frames InObject refl))
      (then_events (ObjectBegins ∷ []) (member_events members) p o (behind End o) (cond (in_list p) [] []) (cond (in_list o) [] (member_parts p.path members))
      (one_event ObjectBegins p o (cond (in_list p) [] []) (value_stands ObjectBegins (innermost p) takes refl refl) refl refl)
      (members_lead members o (last_is p.frames InObject)))
  value_leads (list items) p takes =
      let l : PlaceView = at (p.frames ++ InList ∷ []) p.path in
      told_otherwise p (behind End l) (value_ended p) (events_of (list items)) (cond (in_list p) [] [] ++ []) (cond (in_list p) [] [])
      (ap (λ (frames : List Frame). value_ended (at frames p.path)) (last_gone p.frames InList))
      (append-nil (cond (in_list p) [] []))
      (then_events (ListBegins ∷ []) (item_events items) p l (behind End l) (cond (in_list p) [] []) []
      (one_event ListBegins p l (cond (in_list p) [] []) (value_stands ListBegins (innermost p) takes refl refl) refl refl)
      (items_lead items l (last_is p.frames InList) (inside_list p.frames)))

  -- the members of an object lead to its end
  members_lead : (members : Members) (o : PlaceView) → innermost o ≡ Some InObject → Leads o (member_events members) (behind End o) (cond (in_list o) [] (member_parts o.path members))
  members_lead no_members o inside = one_event End o (behind End o) (cond (in_list o) [] []) (ap (may_stand_in End) inside) refl refl
  members_lead (member key value members) o inside =
      let m : PlaceView = behind (Key key) o in
      let parts : List Part = parts_of m.path value in
      let others : List Part = member_parts o.path members in
      told_otherwise o (behind End o) (behind End o) (member_events (member key value members)) (cond (in_list o) [] (a_key o.path key.now ∷ []) ++ (cond (in_list m) [] parts ++ cond (in_list o) [] others)) (cond (in_list o) [] (a_key o.path key.now ∷ (parts ++ others)))
      refl
      (parts_of_member (in_list o) (in_list m) (a_key o.path key.now) parts others (same_list o.frames Member refl))
      (then_events (Key key ∷ []) (events_of value ++ member_events members) o m (behind End o) (cond (in_list o) [] (a_key o.path key.now ∷ [])) (cond (in_list m) [] parts ++ cond (in_list o) [] others)
      (one_event (Key key) o m (cond (in_list o) [] (a_key o.path key.now ∷ [])) (ap (may_stand_in (Key key)) inside) refl refl)
      (then_events (events_of value) (member_events members) m o (behind End o) (cond (in_list m) [] parts) (cond (in_list o) [] others)
      (told_otherwise m (value_ended m) o (events_of value) (cond (in_list m) [] parts) (cond (in_list m) [] parts) (member_ends key o) refl (value_leads value m (inl (last_is o.frames Member))))
      (members_lead members o inside)))

  -- the items of a list lead to its end, and mean no part
  items_lead : (items : Items) (l : PlaceView) → innermost l ≡ Some InList → in_list l ≡ true → Leads l (item_events items) (behind End l) []
  items_lead no_items l inside listed = one_event End l (behind End l) [] (ap (may_stand_in End) inside) refl (no_parts (in_list l))
  items_lead (item value items) l inside listed =
      then_events (events_of value) (item_events items) l l (behind End l) [] []
      (told_otherwise l (value_ended l) l (events_of value) (cond (in_list l) [] (parts_of l.path value)) [] (ap (λ (frame : Option Frame). value_ended_in frame l) inside) (ap (λ (b : Bool). cond b [] (parts_of l.path value)) listed) (value_leads value l (inr inside)))
      (items_lead items l inside listed)

-- so does a document
document_leads : (members : Members) → Leads beginning (events_of (object members)) (at [] []) (member_parts [] members)
document_leads members =
    let o : PlaceView = at (Document ∷ InObject ∷ []) [] in
    then_events (ObjectBegins ∷ []) (member_events members) beginning o (at [] []) [] (member_parts [] members) (one_event ObjectBegins beginning o [] refl refl refl) (members_lead members o refl)

-- what may stand, may stand as far as it goes
take_placed : (p : PlaceView) (n : ℕ) (events : List Event) → well_placed p events ≡ true → well_placed p (take n events) ≡ true
take_placed p n events placed =
    (and_parts (well_placed p (take n events)) (well_placed (place_behind p (take n events)) (drop n events))
    (sym (placed_append p (take n events) (drop n events)) ∙ ap (λ (es : List Event). well_placed p es) (take-append-drop n events) ∙ placed)).0

-- the events of a document are whole
pub whole_document : (events : List Event) → IsDocument events → IsWhole events
whole_document events document =
    let leads = document_leads document.0 in
    subst (λ (es : List Event). IsWhole es) (sym document.1) (leads.placed, ap (λ (p : PlaceView). p.frames) leads.ends)

-- no event of them is misplaced
pub not_misplaced : (events : List Event) (index : ℕ) → IsDocument events → IsFirstMisplaced events index → ⊥
not_misplaced events index document first = false≢true (sym first.1 ∙ take_placed beginning (index + 1) events (whole_document events document).0)

-- and they mean the parts of the document
pub told_as_document : (schema : SchemaView) (events : List Event) (members : Members) → events ≡ events_of (object members) → told schema events ≡ told_document schema members
told_as_document schema events members is =
    ap (λ (es : List Event). told schema es) is
    ∙ ap (λ (parts : List Part). tell_all parts (new_solver schema)) (document_leads members).brings
