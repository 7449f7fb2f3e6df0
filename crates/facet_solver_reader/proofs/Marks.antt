-- Shapes and lists are marked.
use Rattle.std.proofs.Common.{◌≡◌, ◌⊎◌, ℕ, zero, suc, ◌+◌, ◌<◌, ◌≤◌, Bool, true, false, IsTrue, cond}
use Rattle.std.proofs.Common.{List, [], ◌∷◌, ◌++◌, Some, slice_get, length, get_or, refl, sym, ap}
use Rattle.std.proofs.Common.{◌∙◌, subst, inl, inr, arith, ⊎_elim}
use Rattle.std.proofs.Common.{All, map, option_map, Result, Ok, Err, OnOk}
use Rattle.std.proofs.lemmas.Bool.{cases_lt}
use Rattle.std.proofs.Math.ListN.{set, length-set}
use Rattle.std.proofs.lemmas.List.Sums.{sum_by-set}
use Rattle.std.proofs.lemmas.Option.{slice_get-get_or, slice_get-map}
use Rattle.std.proofs.lemmas.Option.{slice_get_within, get_or_from_slice_get}
use Rattle.facet_solver_reader.specs.declared.tables.every.EveryList.{EveryList}
use Rattle.facet_solver_reader.specs.declared.tables.every.Listed.{Listed}
use Rattle.facet_solver_reader.specs.declared.tables.marks.Marked.{Marked}
use Rattle.facet_solver_reader.specs.declared.tables.marks.Marked.TheVariants.{Shape}
use Rattle.facet_solver_reader.specs.declared.tables.marks.Marked.TheVariants.{List as AList}
use Rattle.facet_solver_reader.specs.declared.tables.marks.Marks.{Marks}
use Rattle.facet_solver_reader.specs.OrderedLists.{IsMarked}
use Rattle.facet_solver_reader.specs.Marks.{AreAdded, AreKept}
use Rattle.facet_solver_reader.specs.Marks.{HasChoiceAt, IsIn, IsMarkedIn, marked_of}
use Rattle.facet_solver_reader.specs.Marks.{EndIsMarked, ListIsMarked, PartIsMarked}
use Rattle.facet_solver_reader.specs.Marks.{ShapeIsMarked, TargetIsMarked}
use Rattle.facet_solver_reader.specs.Parts.{ListId, Part, Target}
use Rattle.facet_solver_reader.specs.Rules.{End}
use Rattle.facet_solver_reader.specs.Types.{content_at}
use Rattle.facet_solver_reader.proofs.Leads.{end_has, part_has, target_has}
use Rattle.facet_solver_reader.proofs.Quantifiers.{all_from}
use Rattle.facet_solver_shape.specs.Catalogues.{Catalogue}

-- what is marked stays so when another is
marked_still : (xs : List Bool) (i k : ℕ) → IsMarked xs k → IsMarked (set xs i true) k
marked_still [] i k h = h
marked_still (x ∷ xs) zero zero h = refl
marked_still (x ∷ xs) zero (suc k) h = h
marked_still (x ∷ xs) (suc i) zero h = h
marked_still (x ∷ xs) (suc i) (suc k) h = marked_still xs i k h

-- what is marked now is the one, or was marked
pub marked_before : (xs : List Bool) (i k : ℕ) → IsMarked (set xs i true) k
    → (k ≡ i) ⊎ IsMarked xs k
marked_before [] i k h = inr h
marked_before (x ∷ xs) zero zero h = inl refl
marked_before (x ∷ xs) zero (suc k) h = inr h
marked_before (x ∷ xs) (suc i) zero h = inr h
marked_before (x ∷ xs) (suc i) (suc k) h =
    ⊎_elim (λ (e : k ≡ i). inl (ap suc e)) (λ (m : IsMarked xs k). inr m)
    (marked_before xs i k h)

-- the one is marked
pub marked_now : (xs : List Bool) (i : ℕ) → i < length xs → IsMarked (set xs i true) i
marked_now [] i h = absurd (omega arith)
marked_now (x ∷ xs) zero h = refl
marked_now (x ∷ xs) (suc i) h = marked_now xs i (omega arith)

-- what is read of a mark
pub mark_read : (xs : List Bool) (i j : ℕ) (b v : Bool) → b ≡ get_or xs i b → b ≡ v → i ≡ j
    → j < length xs → slice_get xs j ≡ Some v
mark_read xs i j b v read is same within =
    let at : i < length xs = omega arith in
    ap (slice_get xs) (sym same) ∙ slice_get-get_or xs i b at ∙ ap Some (sym read ∙ is)

-- what a mark counts
abbrev weight : Bool → ℕ
weight b = cond b 1 0

-- one more is marked
marked_more : (xs : List Bool) (i : ℕ) → slice_get xs i ≡ Some false
    → marked_of (set xs i true) ≡ marked_of xs + 1
marked_more xs i h = omega (arith, was, none)
  where
    was : marked_of (set xs i true) + weight (get_or xs i false) ≡ marked_of xs + 1
    was = sum_by-set weight xs i true false (slice_get_within xs i false h)

    none : weight (get_or xs i false) ≡ 0
    none = ap weight (get_or_from_slice_get xs i false false h)

-- something stays in a list that grows at its end
still_in : (xs : List Marked) (y : Marked) (q : ℕ) (x : Marked) → slice_get xs q ≡ Some x
    → slice_get (xs ++ y ∷ []) q ≡ Some x
still_in [] y q x h = absurd (cc)
still_in (z ∷ xs) y zero x h = h
still_in (z ∷ xs) y (suc q) x h = still_in xs y q x h

-- the last is in it
last_in : (xs : List Marked) (y : Marked) → IsIn (xs ++ y ∷ []) y
last_in [] y = (0, refl)
last_in (x ∷ xs) y = let rest = last_in xs y in (suc rest.0, rest.1)

-- what is in it was in it, or is the last
in_before : (xs : List Marked) (y : Marked) (q : ℕ) (x : Marked)
    → slice_get (xs ++ y ∷ []) q ≡ Some x → (slice_get xs q ≡ Some x) ⊎ (y ≡ x)
in_before [] y zero x h = inr (cc)
in_before [] y (suc q) x h = absurd (cc)
in_before (z ∷ xs) y zero x h = inl h
in_before (z ∷ xs) y (suc q) x h = in_before xs y q x h

-- a list has one more
length_more : (xs : List Marked) (y : Marked) → length (xs ++ y ∷ []) ≡ length xs + 1
length_more [] y = refl
length_more (x ∷ xs) y = let e = length_more xs y in omega arith

-- a shape that is marked
pub shape_marked : (old new : Marks) (id : ℕ) → slice_get old.shapes.items id ≡ Some false
    → new.shapes.items ≡ set old.shapes.items id true → new.lists.items ≡ old.lists.items
    → new.order.items ≡ old.order.items ++ Shape id ∷ [] → AreKept old new
shape_marked old new id was shapes lists order = record {
  shapes = ap length shapes ∙ length-set old.shapes.items id true;
  lists = ap length lists;
  of_shapes = λ k h.
      subst (λ xs. IsMarked xs k) (sym shapes) (marked_still old.shapes.items id k h);
  of_lists = λ k h. subst (λ xs. IsMarked xs k) (sym lists) h;
  order = kept;
  marks = λ m. record {
    shape_in = λ k h.
        ⊎_elim
        (λ (e : k ≡ id). subst (λ i. IsIn new.order.items (Shape i)) (sym e) last)
        (λ (b : IsMarked old.shapes.items k). let there = m.shape_in k b in (there.0, kept _ _ there.1))
        (marked_before old.shapes.items id k (subst (λ xs. IsMarked xs k) shapes h));
    list_in = λ k h.
        let there = m.list_in k (subst (λ xs. IsMarked xs k) lists h) in (there.0, kept _ _ there.1);
    of_order = λ q x h.
        ⊎_elim
        (λ (b : slice_get old.order.items q ≡ Some x). still x (m.of_order q x b))
        (λ (e : Shape id ≡ x). subst (IsMarkedIn new) e now)
        (in_before old.order.items (Shape id) q x (subst (λ xs. slice_get xs q ≡ Some x) order h));
    counted =
        let more = marked_more old.shapes.items id was in
        let long = length_more old.order.items (Shape id) in
        ap length order ∙ long ∙ ap (λ n. n + 1) m.counted
        ∙ sum_is (marked_of old.shapes.items) (marked_of old.lists.items) _ _ (ap marked_of shapes ∙ more) (ap marked_of lists);
  };
}
  where
    kept : (q : ℕ) (x : Marked) → slice_get old.order.items q ≡ Some x
        → slice_get new.order.items q ≡ Some x
    kept q x h =
        subst (λ xs. slice_get xs q ≡ Some x) (sym order) (still_in old.order.items (Shape id) q x h)

    still : (x : Marked) → IsMarkedIn old x → IsMarkedIn new x
    still (Shape k) h =
        subst (λ xs. IsMarked xs k) (sym shapes) (marked_still old.shapes.items id k h)
    still (AList k) h = subst (λ xs. IsMarked xs k) (sym lists) h

    now : IsMarkedIn new (Shape id)
    now =
        subst (λ xs. IsMarked xs id) (sym shapes)
        (marked_now old.shapes.items id (slice_get_within old.shapes.items id false was))

    last : IsIn new.order.items (Shape id)
    last = subst (λ xs. IsIn xs (Shape id)) (sym order) (last_in old.order.items (Shape id))

    sum_is : (a b c d : ℕ) → c ≡ a + 1 → d ≡ b → a + b + 1 ≡ c + d
    sum_is a b c d e f = omega arith

-- a list that is marked
pub list_marked : (every : EveryList) (old new : Marks) (n : ℕ)
    → HasChoiceAt every n → slice_get old.lists.items n ≡ Some false
    → new.lists.items ≡ set old.lists.items n true → new.shapes.items ≡ old.shapes.items
    → new.order.items ≡ old.order.items ++ AList n ∷ [] → AreAdded every old new
list_marked every old new n choice was lists shapes order = record {
  kept = record {
    shapes = ap length shapes;
    lists = ap length lists ∙ length-set old.lists.items n true;
    of_shapes = λ k h. subst (λ xs. IsMarked xs k) (sym shapes) h;
    of_lists = λ k h.
        subst (λ xs. IsMarked xs k) (sym lists) (marked_still old.lists.items n k h);
    order = kept;
    marks = λ m. record {
      shape_in = λ k h.
          let there = m.shape_in k (subst (λ xs. IsMarked xs k) shapes h) in
          (there.0, kept _ _ there.1);
      list_in = λ k h.
          ⊎_elim
          (λ (e : k ≡ n). subst (λ i. IsIn new.order.items (AList i)) (sym e) last)
          (λ (b : IsMarked old.lists.items k). let there = m.list_in k b in (there.0, kept _ _ there.1))
          (marked_before old.lists.items n k (subst (λ xs. IsMarked xs k) lists h));
      of_order = λ q x h.
          ⊎_elim
          (λ (b : slice_get old.order.items q ≡ Some x). still x (m.of_order q x b))
          (λ (e : AList n ≡ x). subst (IsMarkedIn new) e now)
          (in_before old.order.items (AList n) q x (subst (λ xs. slice_get xs q ≡ Some x) order h));
      counted =
          let more = marked_more old.lists.items n was in
          let long = length_more old.order.items (AList n) in
          ap length order ∙ long ∙ ap (λ n. n + 1) m.counted
          ∙ sum_is (marked_of old.shapes.items) (marked_of old.lists.items) _ _ (ap marked_of shapes) (ap marked_of lists ∙ more);
    };
  };
  chosen = λ before k l is h.
      ⊎_elim
      (λ (e : k ≡ n). chosen k l is e)
      (λ (b : IsMarked old.lists.items k). before k l is b)
      (marked_before old.lists.items n k (subst (λ xs. IsMarked xs k) lists h));
}
  where
    kept : (q : ℕ) (x : Marked) → slice_get old.order.items q ≡ Some x
        → slice_get new.order.items q ≡ Some x
    kept q x h =
        subst (λ xs. slice_get xs q ≡ Some x) (sym order) (still_in old.order.items (AList n) q x h)

    still : (x : Marked) → IsMarkedIn old x → IsMarkedIn new x
    still (Shape k) h = subst (λ xs. IsMarked xs k) (sym shapes) h
    still (AList k) h =
        subst (λ xs. IsMarked xs k) (sym lists) (marked_still old.lists.items n k h)

    now : IsMarkedIn new (AList n)
    now =
        subst (λ xs. IsMarked xs n) (sym lists)
        (marked_now old.lists.items n (slice_get_within old.lists.items n false was))

    last : IsIn new.order.items (AList n)
    last = subst (λ xs. IsIn xs (AList n)) (sym order) (last_in old.order.items (AList n))

    sum_is : (a b c d : ℕ) → c ≡ a → d ≡ b + 1 → a + b + 1 ≡ c + d
    sum_is a b c d e f = omega arith

    chosen : (k : ℕ) (l : Listed) → slice_get every.lists.items k ≡ Some l → k ≡ n
        → IsTrue l.has_choice
    chosen k l is e =
        let one : Some l ≡ Some choice.list = sym is ∙ ap (slice_get every.lists.items) e ∙ choice.is_there in
        let same : choice.list ≡ l = cc in
        subst (λ x. IsTrue x.has_choice) same choice.chosen

-- one change after another
pub kept_on : (a b c : Marks) → AreKept a b → AreKept b c → AreKept a c
kept_on a b c f g = record {
  shapes = g.shapes ∙ f.shapes;
  lists = g.lists ∙ f.lists;
  of_shapes = λ k h. g.of_shapes k (f.of_shapes k h);
  of_lists = λ k h. g.of_lists k (f.of_lists k h);
  order = λ q x h. g.order q x (f.order q x h);
  marks = λ m. g.marks (f.marks m);
}

pub added_on : (every : EveryList) (a b c : Marks) → AreAdded every a b → AreAdded every b c
    → AreAdded every a c
added_on every a b c f g =
    record { kept = kept_on a b c f.kept g.kept; chosen = λ h. g.chosen (f.chosen h) }

-- the list of the number has a choice, or not
pub choice_there : (every : EveryList) (k : ℕ) (l : Listed) (all : List Listed)
    → all ≡ every.lists.items → k < length all → l ≡ get_or all k l → IsTrue l.has_choice
    → HasChoiceAt every k
choice_there every k l all same within read chosen = record {
  list = l;
  is_there = ap (λ ls. slice_get ls k) (sym same) ∙ slice_get-get_or all k l within ∙ ap Some (sym read);
  chosen = chosen;
}

pub no_choice_there : (every : EveryList) (k : ℕ) (l : Listed) (all : List Listed)
    → all ≡ every.lists.items → k < length all → l ≡ get_or all k l → l.has_choice ≡ false
    → HasChoiceAt every k → ⊥
no_choice_there every k l all same within read none has =
    let there = ap (λ ls. slice_get ls k) (sym same) ∙ slice_get-get_or all k l within ∙ ap Some (sym read) in
    let one : Some l ≡ Some has.list = sym there ∙ has.is_there in
    let is : l ≡ has.list = cc in
    let yes : has.list.has_choice ≡ true = has.chosen in
    let no : has.list.has_choice ≡ false = ap (λ x. x.has_choice) (sym is) ∙ none in
    cc

-- a shape is still marked after a change
pub shape_still : (a b : Marks) → AreKept a b → (id : ℕ) → ShapeIsMarked a id → ShapeIsMarked b id
shape_still a b f id h within =
    f.of_shapes id (h (let same = f.shapes in omega (arith, within, same)))

-- so is a list
pub list_still : (every : EveryList) (a b : Marks) → AreKept a b → (id : ListId)
    → ListIsMarked every a id → ListIsMarked every b id
list_still every a b f id h k is has within =
    f.of_lists k (h k is has (let same = f.lists in omega (arith, within, same)))

-- and what a target leads to
pub target_still : (shapes : Catalogue) (every : EveryList) (a b : Marks) → AreKept a b
    → (t : Target) → TargetIsMarked shapes every a t → TargetIsMarked shapes every b t
target_still shapes every a b f t h =
    target_has (λ id s _. shape_still a b f id s) (λ l s _. list_still every a b f l s)
    (content_at shapes) t h h

-- and what an end leads to
pub end_still : (shapes : Catalogue) (every : EveryList) (a b : Marks) → AreKept a b
    → (e : End) → EndIsMarked shapes every a e → EndIsMarked shapes every b e
end_still shapes every a b f e h =
    end_has (λ id s _. shape_still a b f id s) (λ l s _. list_still every a b f l s)
    (content_at shapes) e h h

-- and what a part leads to
pub part_still : (shapes : Catalogue) (every : EveryList) (a b : Marks) → AreKept a b
    → (p : Part) → PartIsMarked shapes every a p → PartIsMarked shapes every b p
part_still shapes every a b f p h =
    part_has (λ id s _. shape_still a b f id s) (λ l s _. list_still every a b f l s)
    (content_at shapes) p h h

-- each element before an index has a property
abbrev pub EachBefore : {X : Type 0} → (X → Type 0) → List X → ℕ → Type 0
EachBefore {X} P xs i = (k : ℕ) (x : X) → k < i → slice_get xs k ≡ Some x → P x

-- one more has it
pub each_more : {X Y : Type 0} (P Q : X → Type 0) (view : Y → X) (ys : List Y) (i : ℕ) (y : Y)
    → ((x : X) → P x → Q x) → EachBefore P (map view ys) i → i < length ys → y ≡ get_or ys i y
    → Q (view y) → EachBefore Q (map view ys) (i + 1)
each_more {X} P Q view ys i y weaker before within read here k x less is =
    elim (cases_lt k i) [
      | inl l ↦ weaker x (before k x l is)
      | inr l ↦
          let same : k ≡ i = omega arith in
          let at : slice_get ys i ≡ Some y = slice_get-get_or ys i y within ∙ ap Some (sym read) in
          let one : Some x ≡ Some (view y) =
          sym is ∙ ap (slice_get (map view ys)) same ∙ slice_get-map view ys i ∙ ap (option_map view) at
          in
          let equal : view y ≡ x = cc in
          subst Q equal here
    ]

-- all have it
pub each_all : {X : Type 0} (P : X → Type 0) (xs : List X) (n : ℕ) → EachBefore P xs n
    → length xs ≤ n → All P xs
each_all P xs n before past =
    all_from P xs (λ k x is. before k x (let l = slice_get_within xs k x is in omega arith) is)

-- what follows on success
pub on_ok_then : {T E : Type 0} (r : Result T E) (P Q : Type 0) → (P → Q) → OnOk r P → OnOk r Q
on_ok_then (Ok x) P Q f h = f h
on_ok_then (Err e) P Q f h = h
