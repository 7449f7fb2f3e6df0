-- Numbered values, of which one more is opened.
use Rattle.std.proofs.Common.{◌≡◌, ℕ, zero, suc, ◌+◌, ◌<◌, ◌≤◌, List, [], ◌∷◌, ◌++◌, map, length, take, drop, Some, slice_get, refl, sym, ap, subst, ◌∙◌, arith, inl, inr, ◌⊎◌, append-nil, Bor, IsPermutation}
use Rattle.std.proofs.Math.Seq.{drop-append_seam}
use Rattle.std.proofs.lemmas.List.{map-append, take-append-le, take-append-drop, drop-append-le, take_all, length-map, length-append, length-drop, get_or-append-add}
use Rattle.std.proofs.lemmas.List.Sorted.{IsPermutation-map, IsPermutation-sym, length_permutation, IsPermutation-refl}
use Rattle.std.proofs.lemmas.Option.{get_or_from_slice_get, slice_get_within, slice_get_read, same_Some}
use Rattle.std.specs.declared.vec.Vec.{Vec}
use Rattle.std.specs.declared.alloc.Global.{Global}
use Rattle.facet_solver_shape.specs.Names.{Name, names_of}
use Rattle.facet_solver_reader.specs.declared.document.Document.{Document}
use Rattle.facet_solver_reader.specs.declared.nodes.Nodes.{Nodes}
use Rattle.facet_solver_reader.specs.declared.nodes.Opening.{Opening}
use Rattle.facet_solver_reader.specs.Documents.{Tree, Member, object, list, view, items_view, members_view}
use Rattle.facet_solver_reader.specs.Places.{IsLeastRepeated, names_in}
use Rattle.facet_solver_reader.specs.Nodes.{AreByName, AreNamesOf, AreNumbered, IsAdded, IsAppended, IsInside, AreAddedByName, IsOpened, Named, Node, IsNumberedSoFar, children, count, entries, nodes_of, opened, value_of, members_in, names_among, numbered, under, values_in}
use Rattle.facet_solver_reader.proofs.Trees.{items-view, same_names, values-view}
use Rattle.facet_solver_reader.proofs.Adding.{long_numbered}
use Rattle.facet_solver_reader.proofs.Numbering.{long_nodes, value_there}
use Rattle.facet_solver_reader.proofs.RepeatedNames.{IsLeastRepeated-permutation}

-- ---- what stands in the front of a list, and after it

pub at_front : {X : Type 0} (xs ys : List X) (i : ℕ) (x : X) → slice_get xs i ≡ Some x → slice_get (xs ++ ys) i ≡ Some x
at_front [] ys i x there = absurd (cc)
at_front (y ∷ xs) ys zero x there = there
at_front (y ∷ xs) ys (suc i) x there = at_front xs ys i x there

pub at_after : {X : Type 0} (xs ys : List X) (k : ℕ) (y : X) → slice_get ys k ≡ Some y → slice_get (xs ++ ys) (length xs + k) ≡ Some y
at_after xs ys k y there =
    slice_get_read (xs ++ ys) (length (xs ++ ys)) (length xs + k) y refl (omega (arith, length-append xs ys, slice_get_within ys k y there))
    (sym (get_or-append-add xs ys k y ∙ get_or_from_slice_get ys k y y there))

-- an element is in the front, or after it
pub at_either : {X : Type 0} (xs ys : List X) (i : ℕ) (x : X) → slice_get (xs ++ ys) i ≡ Some x → (slice_get xs i ≡ Some x) ⊎ ((k : ℕ) × (i ≡ length xs + k) × (slice_get ys k ≡ Some x))
at_either [] ys i x there = inr (i, omega arith, there)
at_either (y ∷ xs) ys zero x there = inl there
at_either (y ∷ xs) ys (suc i) x there = elim (at_either xs ys i x there) [
  | inl front ↦ inl front
  | inr after ↦ inr (after.0, let n = after.1 in omega arith, after.2)
]

part-more : {X : Type 0} (n k : ℕ) (xs ys : List X) → k + n ≤ length xs → take n (drop k xs) ≡ take n (drop k (xs ++ ys))
part-more n k xs ys within =
    let inner : n ≤ length (drop k xs) = omega (arith, length-drop k xs, within) in
    sym (ap (take n) (drop-append-le k xs ys (omega (arith, within))) ∙ take-append-le n (drop k xs) ys inner)

pub values-more : (ns ms : List Node) → values_in (ns ++ ms) ≡ values_in ns ++ values_in ms
values-more ns ms = map-append (λ (n : Node). n.value) ns ms

pub values-under : (parent : ℕ) (vs : List Tree) → values_in (under parent vs) ≡ vs
values-under parent [] = refl
values-under parent (v ∷ vs) = ap (λ us. v ∷ us) (values-under parent vs)

under_at : (parent : ℕ) (vs : List Tree) (k : ℕ) (n : Node) → slice_get (under parent vs) k ≡ Some n → (slice_get vs k ≡ Some n.value) × (n.parent ≡ parent)
under_at parent [] k n there = absurd (cc)
under_at parent (v ∷ vs) zero n there =
    let first : Node = record { value = v; parent = parent } in
    let same = same_Some first n there in
    (ap (λ (m : Node). Some m.value) same, sym (ap (λ (m : Node). m.parent) same))
under_at parent (v ∷ vs) (suc k) n there = under_at parent vs k n there

long_values : (ns : List Node) → length (values_in ns) ≡ length ns
long_values ns = length-map ns (λ (n : Node). n.value)

-- ---- more values and names

pub opened-more : (ns more : List Node) (es names : Named) (o : Opening) (v : Tree) → IsOpened ns es o v → IsOpened (ns ++ more) (es ++ names) o v
opened-more ns more es names o v inner = record {
  children_at = λ k c there. subst (λ vs. slice_get vs (o.first + k) ≡ Some c) (sym (values-more ns more)) (at_front (values_in ns) (values_in more) (o.first + k) c (inner.children_at k c there));
  within = omega (arith, inner.within, length-append es names);
  names_are = subst (AreNamesOf (members_in v) o.first) (part-more (length (members_in v)) o.names es names inner.within) inner.names_are;
}

pub inside-more : (ns more : List Node) (os next : List Opening) (i : ℕ) (n : Node) → IsInside ns os i n → IsInside (ns ++ more) (os ++ next) i n
inside-more ns more os next i n inner = record {
  opening = inner.opening;
  around = inner.around;
  index = inner.index;
  earlier = inner.earlier;
  opening_at = at_front os next n.parent inner.opening inner.opening_at;
  around_at = subst (λ vs. slice_get vs n.parent ≡ Some inner.around) (sym (values-more ns more)) (at_front (values_in ns) (values_in more) n.parent inner.around inner.around_at);
  number_is = inner.number_is;
  child_at = inner.child_at;
}

-- names that are added change nothing of what is numbered
pub numbered-names : (ns : List Node) (os : List Opening) (es names : Named) → AreNumbered ns os es → AreNumbered ns os (es ++ names)
numbered-names ns os es names inner = record {
  opened = λ i o v o_at v_at. subst (λ ms. IsOpened ms (es ++ names) o v) (append-nil ns) (opened-more ns [] es names o v (inner.opened i o v o_at v_at));
  inside = inner.inside;
  upto = inner.upto;
}

-- ---- one value that is opened
module _ (ns : List Node) (os : List Opening) (es names : Named) (v : Tree) (o : Opening) (inner : AreNumbered ns os es) (left : length os < length ns) (v_at : slice_get (values_in ns) (length os) ≡ Some v) (first_is : o.first ≡ length ns) (names_from : o.names ≡ length es) (names_are : AreNamesOf (members_in v) (length ns) names) where
  children_after : (k : ℕ) (c : Tree) → slice_get (children v) k ≡ Some c → slice_get (values_in (ns ++ under (length os) (children v))) (o.first + k) ≡ Some c
  children_after k c there =
      let all : values_in (ns ++ under (length os) (children v)) ≡ values_in ns ++ children v = values-more ns (under (length os) (children v)) ∙ ap (λ us. values_in ns ++ us) (values-under (length os) (children v)) in
      let index : length (values_in ns) + k ≡ o.first + k = omega (arith, long_values ns, first_is) in
      subst (λ i. slice_get (values_in (ns ++ under (length os) (children v))) i ≡ Some c) index
      (subst (λ us. slice_get us (length (values_in ns) + k) ≡ Some c) (sym all) (at_after (values_in ns) (children v) k c there))

  long_names : length names ≡ length (members_in v)
  long_names =
      let moved = length_permutation (numbered (length ns) (members_in v)) (entries names) names_are.same in
      let seen = length-map names (λ (e : Bor Name × ℕ). let x : Name × ℕ = (e.0.now, e.1) in x) in
      omega (arith, moved, seen, long_numbered (length ns) (members_in v))

  part_after : take (length (members_in v)) (drop o.names (es ++ names)) ≡ names
  part_after =
      ap (λ k. take (length (members_in v)) (drop k (es ++ names))) names_from
      ∙ ap (take (length (members_in v))) (drop-append_seam es names)
      ∙ take_all (length (members_in v)) names (omega (arith, long_names))

  opened_here : IsOpened (ns ++ under (length os) (children v)) (es ++ names) o v
  opened_here = record {
    children_at = children_after;
    within = omega (arith, long_names, length-append es names, names_from);
    names_are =
        subst (AreNamesOf (members_in v) o.first) (sym part_after)
        (subst (λ k. AreNamesOf (members_in v) k names) (sym first_is) names_are);
  }

  -- a value that was numbered before is the same
  old_value : (i : ℕ) (w : Tree) → i < length ns → slice_get (values_in (ns ++ under (length os) (children v))) i ≡ Some w → slice_get (values_in ns) i ≡ Some w
  old_value i w less there = elim (at_either (values_in ns) (values_in (under (length os) (children v))) i w (subst (λ us. slice_get us i ≡ Some w) (values-more ns (under (length os) (children v))) there)) [
    | inl front ↦ front
    | inr after ↦ absurd (let n = after.1 in omega (arith, less, n, long_values ns))
  ]

  opened_last : (i k : ℕ) (p : Opening) (w : Tree) → i ≡ length os + k → slice_get (o ∷ []) k ≡ Some p → slice_get (values_in (ns ++ under (length os) (children v))) i ≡ Some w → IsOpened (ns ++ under (length os) (children v)) (es ++ names) p w
  opened_last i zero p w is p_at w_at =
      let here : i ≡ length os = omega (arith, is) in
      let less : i < length ns = omega (arith, here, left) in
      let same_value : v ≡ w = same_Some v w (sym v_at ∙ ap (slice_get (values_in ns)) (sym here) ∙ old_value i w less w_at) in
      subst (λ q. IsOpened (ns ++ under (length os) (children v)) (es ++ names) q w) (same_Some o p p_at)
      (subst (λ u. IsOpened (ns ++ under (length os) (children v)) (es ++ names) o u) same_value opened_here)
  opened_last i (suc k) p w is p_at w_at = absurd (cc)

  opened_all : (i : ℕ) (p : Opening) (w : Tree) → slice_get (os ++ o ∷ []) i ≡ Some p → slice_get (values_in (ns ++ under (length os) (children v))) i ≡ Some w → IsOpened (ns ++ under (length os) (children v)) (es ++ names) p w
  opened_all i p w p_at w_at = elim (at_either os (o ∷ []) i p p_at) [
    | inl front ↦ opened-more ns (under (length os) (children v)) es names p w (inner.opened i p w front (old_value i w (omega (arith, slice_get_within os i p front, left)) w_at))
    | inr after ↦ opened_last i after.0 p w after.1 after.2 w_at
  ]

  inside_new : (i k : ℕ) (n : Node) → i ≡ length ns + k → slice_get (under (length os) (children v)) k ≡ Some n → IsInside (ns ++ under (length os) (children v)) (os ++ o ∷ []) i n
  inside_new i k n is there =
      let child = under_at (length os) (children v) k n there in
      let parent : n.parent ≡ length os = child.1 in
      let last : length os + 0 ≡ n.parent = omega (arith, parent) in
      record {
        opening = o;
        around = v;
        index = k;
        earlier = omega (arith, is, parent, left);
        opening_at = subst (λ j. slice_get (os ++ o ∷ []) j ≡ Some o) last (at_after os (o ∷ []) 0 o refl);
        around_at =
            subst (λ us. slice_get us n.parent ≡ Some v) (sym (values-more ns (under (length os) (children v))))
            (at_front (values_in ns) (values_in (under (length os) (children v))) n.parent v (subst (λ j. slice_get (values_in ns) j ≡ Some v) (sym parent) v_at));
        number_is = omega (arith, is, first_is);
        child_at = child.0;
      }

  inside_all : (i : ℕ) (n : Node) → slice_get (ns ++ under (length os) (children v)) i ≡ Some n → 0 < i → IsInside (ns ++ under (length os) (children v)) (os ++ o ∷ []) i n
  inside_all i n there some = elim (at_either ns (under (length os) (children v)) i n there) [
    | inl front ↦ inside-more ns (under (length os) (children v)) os (o ∷ []) i n (inner.inside i n front some)
    | inr after ↦ inside_new i after.0 n after.1 after.2
  ]

  pub numbered_next : AreNumbered (ns ++ under (length os) (children v)) (os ++ o ∷ []) (es ++ names)
  numbered_next = record {
    opened = opened_all;
    inside = inside_all;
    upto = omega (arith, length-append os (o ∷ []), length-append ns (under (length os) (children v)), left);
  }

-- ---- names that are sorted behind those that are there
module _ (ms : List Member) (first start : ℕ) (old added sorted : Named) (appended : IsAppended old added (numbered first ms)) (start_is : start ≡ length old) (before : take start sorted ≡ take start added) (moved : IsPermutation (drop start added) (drop start sorted)) where
  front_is : take start added ≡ old
  front_is =
      ap (take start) appended.is ∙ ap (λ k. take k (old ++ appended.names)) start_is ∙ take-append-le (length old) old appended.names (omega arith) ∙ take_all (length old) old (omega arith)

  rest_is : drop start added ≡ appended.names
  rest_is = ap (drop start) appended.is ∙ ap (λ k. drop k (old ++ appended.names)) start_is ∙ drop-append_seam old appended.names

  pub sorted_is : sorted ≡ old ++ drop start sorted
  sorted_is = sym (take-append-drop start sorted) ∙ ap (λ es. es ++ drop start sorted) (before ∙ front_is)

  pub same_entries : IsPermutation (numbered first ms) (entries (drop start sorted))
  same_entries =
      subst (λ es. IsPermutation es (entries (drop start sorted))) (ap entries rest_is ∙ appended.entries_are)
      (IsPermutation-map (λ (e : Bor Name × ℕ). let x : Name × ℕ = (e.0.now, e.1) in x) (drop start added) (drop start sorted) moved)

  pub names_sorted : AreByName (drop start sorted) → AreNamesOf ms first (drop start sorted)
  names_sorted by_name = record { same = same_entries; by_name = by_name }

  pub repeated_member : (x : Name) → IsLeastRepeated (names_of (names_among (drop start sorted))) x → IsLeastRepeated (names_in ms) x
  repeated_member x repeated =
      IsLeastRepeated-permutation _ _ x (IsPermutation-sym _ _ (same_names ms first (drop start sorted) same_entries)) repeated

-- a list that replaces another of the same length
pub whole : {X : Type 0} (n : ℕ) (xs ys : List X) → n ≡ length xs → take n (xs ++ ys) ≡ xs
whole n xs ys is = take-append-le n xs ys (omega (arith, is)) ∙ take_all n xs (omega (arith, is))

-- ---- what is inside one value

no_names : (first : ℕ) → AreNamesOf [] first []
no_names first = record {
  same = IsPermutation-refl [];
  by_name = record { sorted = λ k d low less. absurd (omega (arith, less)); apart = λ twice. absurd (let none = twice.at_first in cc) };
}

pub list_added : (old new : Nodes) (number : ℕ) (ds : List Document) → nodes_of new ≡ nodes_of old ++ under number (map view ds) → new.openings.items ≡ old.openings.items → new.by_name.items ≡ old.by_name.items → IsAdded old new number (list (items_view ds))
list_added old new number ds nodes openings names = record {
  nodes_are = nodes ∙ ap (λ vs. nodes_of old ++ under number vs) (sym (items-view ds));
  openings_are = openings;
  names = [];
  by_name_is = names ∙ sym (append-nil old.by_name.items);
  names_are = no_names (count old);
}

pub object_added : (old mid new : Nodes) (number : ℕ) (ms : List (Bor Name × Document)) → AreAddedByName old mid (members_view ms) → nodes_of new ≡ nodes_of mid ++ under number (map (λ m. view m.1) ms) → new.openings.items ≡ mid.openings.items → new.by_name.items ≡ mid.by_name.items → IsAdded old new number (object (members_view ms))
object_added old mid new number ms named nodes openings names = record {
  nodes_are = nodes ∙ (λ i. named.nodes_are i ++ under number (sym (values-view ms) i));
  openings_are = openings ∙ named.openings_are;
  names = named.names;
  by_name_is = names ∙ named.by_name_is;
  names_are = named.names_are;
}

pub nothing_added : (old : Nodes) (number : ℕ) (v : Tree) → (children v ≡ []) × (members_in v ≡ []) → IsAdded old old number v
nothing_added old number v nothing = record {
  nodes_are = sym (append-nil (nodes_of old)) ∙ ap (λ vs. nodes_of old ++ under number vs) (sym nothing.0);
  openings_are = refl;
  names = [];
  by_name_is = sym (append-nil old.by_name.items);
  names_are = subst (λ ms. AreNamesOf ms (count old) []) (sym nothing.1) (no_names (count old));
}

-- ---- one more value is opened
pub next_numbered : (old added : Nodes) (openings : Vec Opening Global) (number : ℕ) (o : Opening) (v : Tree) → IsNumberedSoFar old → opened old < count old → number ≡ opened old → o.first ≡ count old → o.names ≡ length old.by_name.items → v ≡ value_of old number → IsAdded old added number v → openings.items ≡ added.openings.items ++ o ∷ [] → AreNumbered (nodes_of added) openings.items added.by_name.items
next_numbered old added openings number o v under_way left number_is first_is names_from v_is adds pushed =
    let here : v ≡ value_of old (opened old) = v_is ∙ ap (value_of old) number_is in
    let v_at : slice_get (values_in (nodes_of old)) (opened old) ≡ Some v = value_there old (opened old) left ∙ ap Some (sym here) in
    let long : length (nodes_of old) ≡ count old = long_nodes old in
    let next = numbered_next (nodes_of old) old.openings.items old.by_name.items adds.names v o under_way (omega (arith, left, long)) v_at (omega (arith, first_is, long)) names_from
    (subst (λ k. AreNamesOf (members_in v) k adds.names) (sym long) adds.names_are) in
    let nodes : nodes_of old ++ under (opened old) (children v) ≡ nodes_of added = ap (λ k. nodes_of old ++ under k (children v)) (sym number_is) ∙ sym adds.nodes_are in
    let opens : old.openings.items ++ o ∷ [] ≡ openings.items = ap (λ os. os ++ o ∷ []) (sym adds.openings_are) ∙ sym pushed in
    subst (λ ns. AreNumbered ns openings.items added.by_name.items) nodes
    (subst (λ os. AreNumbered (nodes_of old ++ under (opened old) (children v)) os added.by_name.items) opens
    (subst (λ es. AreNumbered (nodes_of old ++ under (opened old) (children v)) (old.openings.items ++ o ∷ []) es) (sym adds.by_name_is) next))

-- the value of a number stays where values are added
pub value_stays : (old new : Nodes) (more : List Node) (i : ℕ) (v : Tree) → nodes_of new ≡ nodes_of old ++ more → slice_get (values_in (nodes_of old)) i ≡ Some v → slice_get (values_in (nodes_of new)) i ≡ Some v
value_stays old new more i v added there =
    subst (λ us. slice_get us i ≡ Some v) (sym (ap values_in added ∙ values-more (nodes_of old) more)) (at_front (values_in (nodes_of old)) (values_in more) i v there)
