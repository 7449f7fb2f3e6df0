-- What is reached from a root is gone through.
use Rattle.std.proofs.Common.{◌≡◌, ◌⊎◌, ℕ, zero, suc, ◌+◌, ◌<◌, Bool, true, false}
use Rattle.std.proofs.Common.{List, [], ◌∷◌, All, Option, Some, None, slice_get, length, refl, sym}
use Rattle.std.proofs.Common.{ap, ◌∙◌, subst, inl, inr, arith, ⊎_elim, get_or, replicate}
use Rattle.std.proofs.Math.ListN.{set, length-set, length-replicate}
use Rattle.std.proofs.lemmas.Bool.{cases_lt}
use Rattle.std.proofs.lemmas.Option.{slice_get-get_or, slice_get_within}
use Rattle.facet_solver_shape.specs.Catalogues.{Catalogue}
use Rattle.facet_solver_reader.specs.declared.end.End as code
use Rattle.facet_solver_reader.specs.declared.tables.every.EveryList.{EveryList}
use Rattle.facet_solver_reader.specs.declared.tables.every.Listed.{Listed}
use Rattle.facet_solver_reader.specs.declared.tables.marks.Marked.{Marked}
use Rattle.facet_solver_reader.specs.declared.tables.marks.Marked.TheVariants.{Shape}
use Rattle.facet_solver_reader.specs.declared.tables.marks.Marked.TheVariants.{List as AList}
use Rattle.facet_solver_reader.specs.declared.tables.marks.Marks.{Marks}
use Rattle.facet_solver_reader.specs.declared.tables.reached.Reached.{Reached}
use Rattle.facet_solver_reader.specs.EveryList.{AreEveryList}
use Rattle.facet_solver_reader.specs.Met.{AreMet, NumberIsMet, ShapeIsMet, StayMet}
use Rattle.facet_solver_reader.specs.Marks.{AreAdded, AreKept, AreMarks, AreNoMarks, EndIsMarked}
use Rattle.facet_solver_reader.specs.Marks.{PartIsMarked, ShapeIsMarked, marked_of}
use Rattle.facet_solver_reader.specs.OrderedLists.{IsMarked}
use Rattle.facet_solver_reader.specs.Types.{end_of}
use Rattle.facet_solver_reader.specs.Views.{end_view, parts_view}
use Rattle.facet_solver_reader.specs.WorkList.{HasEnd, IsDone, IsGoneThrough, IsReachedSoFar}
use Rattle.facet_solver_reader.proofs.AllMet.{root_met}
use Rattle.facet_solver_reader.proofs.Marks.{end_still, part_still, shape_still}

-- nothing is marked at first
none_marked : (n k : ℕ) → IsMarked (replicate n false) k → ⊥
none_marked zero k h = cc
none_marked (suc n) zero h = cc
none_marked (suc n) (suc k) h = none_marked n k h

none_counted : (n : ℕ) → marked_of (replicate n false) ≡ 0
none_counted zero = refl
none_counted (suc n) = let rest = none_counted n in omega arith

-- no end is there at first
none_there : (n k : ℕ) (e : code.End) → slice_get (replicate n None) k ≡ Some (Some e) → ⊥
none_there zero k e h = cc
none_there (suc n) zero e h = cc
none_there (suc n) (suc k) e h = none_there n k e h

no_marks : (n m : ℕ) (marks : Marks) → AreNoMarks n m marks → AreMarks marks
no_marks n m marks none = record {
  shape_in = λ k h. absurd (none_marked n k (subst (λ xs. IsMarked xs k) none.of_shapes h));
  list_in = λ k h. absurd (none_marked m k (subst (λ xs. IsMarked xs k) none.of_lists h));
  of_order = λ q x h.
      let no : slice_get [] q ≡ Some x = subst (λ xs. slice_get xs q ≡ Some x) none.order h in
      absurd (cc);
  counted =
      let a = none_counted n in
      let b = none_counted m in
      let c : marked_of marks.shapes.items ≡ 0 = ap marked_of none.of_shapes ∙ a in
      let d : marked_of marks.lists.items ≡ 0 = ap marked_of none.of_lists ∙ b in
      let e : length marks.order.items ≡ 0 = ap length none.order in
      omega (arith, c, d, e);
}

-- and nothing but what is met
none_met : (shapes : Catalogue) (every : EveryList) (n m : ℕ) (marks : Marks) → AreNoMarks n m marks
    → (strict : Bool) (root : ℕ) → AreMet shapes every strict root marks
none_met shapes every n m marks none strict root = record {
  of_shapes = λ k h. absurd (none_marked n k (subst (λ xs. IsMarked xs k) none.of_shapes h));
  of_lists = λ k h. absurd (none_marked m k (subst (λ xs. IsMarked xs k) none.of_lists h));
}

-- the start
pub first_under_way : (shapes : Catalogue) (every : EveryList) (root e n m : ℕ) (before : Marks)
    (r : Reached) → e ≡ length shapes → n ≡ length shapes → m ≡ length every.lists.items
    → r.ends.items ≡ replicate e None → AreNoMarks n m before → AreKept before r.marks
    → r.marks.lists ≡ before.lists → ShapeIsMarked r.marks root → AreEveryList shapes every
    → StayMet shapes every before r.marks (λ strict first. ShapeIsMet shapes strict first root)
    → IsReachedSoFar shapes every root 0 r
first_under_way shapes every root e n m before r of_e of_n of_m ends none kept same marked are met = record {
  of_ends = ap length ends ∙ length-replicate e None ∙ of_e;
  of_shapes = kept.shapes ∙ ap length none.of_shapes ∙ length-replicate n false ∙ of_n;
  of_lists = kept.lists ∙ ap length none.of_lists ∙ length-replicate m false ∙ of_m;
  marks = kept.marks (no_marks n m before none);
  chosen = λ k l is h.
      absurd
      (none_marked m k
      (subst (λ xs. IsMarked xs k) (ap (λ v. v.items) same ∙ none.of_lists) h));
  root_is_marked = marked;
  ends = λ id x is.
      absurd (none_there e id x (subst (λ xs. slice_get xs id ≡ Some (Some x)) ends is));
  done = λ q x l is. absurd (omega arith);
  sound = λ id has.
      absurd (none_there e id has.0 (subst (λ xs. slice_get xs id ≡ Some (Some has.0)) ends has.1));
  met = λ strict. met strict root are (root_met shapes strict root) (none_met shapes every n m before none strict root);
}

-- an end that is set
module _ {X : Type 0} where
  set_there : (xs : List (Option X)) (i k : ℕ) (y e : X)
      → slice_get (set xs i (Some y)) k ≡ Some (Some e)
      → ((k ≡ i) × (y ≡ e)) ⊎ (slice_get xs k ≡ Some (Some e))
  set_there [] i k y e h = inr h
  set_there (x ∷ xs) zero zero y e h = inl (refl, cc)
  set_there (x ∷ xs) zero (suc k) y e h = inr h
  set_there (x ∷ xs) (suc i) zero y e h = inr h
  set_there (x ∷ xs) (suc i) (suc k) y e h =
      ⊎_elim (λ (b : (k ≡ i) × (y ≡ e)). inl (ap suc b.0, b.1))
      (λ (b : slice_get xs k ≡ Some (Some e)). inr b) (set_there xs i k y e h)

  set_here : (xs : List (Option X)) (i : ℕ) (y : X) → i < length xs
      → slice_get (set xs i (Some y)) i ≡ Some (Some y)
  set_here [] i y h = absurd (omega arith)
  set_here (x ∷ xs) zero y h = refl
  set_here (x ∷ xs) (suc i) y h = set_here xs i y (omega arith)

  -- what is there before has some element
  set_still : (xs : List (Option X)) (i k : ℕ) (y e : X) → slice_get xs k ≡ Some (Some e)
      → (d : X) × (slice_get (set xs i (Some y)) k ≡ Some (Some d))
  set_still [] i k y e h = (e, h)
  set_still (x ∷ xs) zero zero y e h = (y, refl)
  set_still (x ∷ xs) zero (suc k) y e h = (e, h)
  set_still (x ∷ xs) (suc i) zero y e h = (e, h)
  set_still (x ∷ xs) (suc i) (suc k) y e h = set_still xs i k y e h

-- what stands in the order stood there before, up to its end
stood : (old new : Marks) → AreKept old new → (q : ℕ) (x : Marked) → q < length old.order.items
    → slice_get new.order.items q ≡ Some x → slice_get old.order.items q ≡ Some x
stood old new kept q x within is =
    let y : Marked = get_or old.order.items q x in
    let at : slice_get old.order.items q ≡ Some y = slice_get-get_or old.order.items q x within in
    let now : slice_get new.order.items q ≡ Some y = kept.order q y at in
    at ∙ sym now ∙ is

-- what is done stays so
done_still : (shapes : Catalogue) (every : EveryList) (old new : Reached)
    → AreKept old.marks new.marks
    → ((id : ℕ) → HasEnd old.ends.items id → HasEnd new.ends.items id)
    → (x : Marked) → IsDone shapes every old x → IsDone shapes every new x
done_still shapes every old new kept has (Shape id) h = has id h
done_still shapes every old new kept has (AList k) h =
    λ l is i d within. part_still shapes every old.marks new.marks kept _ (h l is i d within)

module _ (shapes : Catalogue) (every : EveryList) (root p : ℕ) (old new : Reached) (u : IsReachedSoFar shapes every root p old) where
  -- what is to be done is in range
  pub shape_within : (id : ℕ) → slice_get old.marks.order.items p ≡ Some (Shape id)
      → id < length old.ends.items
  shape_within id at =
      let here = slice_get_within old.marks.shapes.items id true (u.marks.of_order p (Shape id) at) in
      let a = u.of_ends in
      let b = u.of_shapes in
      omega (arith, here, a, b)

  pub list_within : (k : ℕ) → slice_get old.marks.order.items p ≡ Some (AList k)
      → k < length every.lists.items
  list_within k at =
      let here = slice_get_within old.marks.lists.items k true (u.marks.of_order p (AList k) at) in
      let b = u.of_lists in
      omega (arith, here, b)

  -- one more is done
  one_more : (x : Marked) → slice_get old.marks.order.items p ≡ Some x
      → AreKept old.marks new.marks
      → ((id : ℕ) → HasEnd old.ends.items id → HasEnd new.ends.items id)
      → IsDone shapes every new x
      → (q : ℕ) (y : Marked) → q < p + 1 → slice_get new.marks.order.items q ≡ Some y
      → IsDone shapes every new y
  one_more x at kept has here q y less is =
      let within = slice_get_within old.marks.order.items p x at in
      let was = stood old.marks new.marks kept q y (omega arith) is in
      elim (cases_lt q p) [
        | inl l ↦ done_still shapes every old new kept has y (u.done q y l was)
        | inr l ↦
            let same : q ≡ p = omega arith in
            let one : Some y ≡ Some x = sym was ∙ ap (slice_get old.marks.order.items) same ∙ at in
            let equal : x ≡ y = cc in
            subst (IsDone shapes every new) equal here
      ]

  -- a shape is gone through
  pub shape_done : (id : ℕ) → slice_get old.marks.order.items p ≡ Some (Shape id)
      → IsGoneThrough shapes every id old new → AreEveryList shapes every
      → IsReachedSoFar shapes every root (p + 1) new
  shape_done id at g are = record {
    of_ends = ap length g.ends ∙ length-set old.ends.items id (Some g.end) ∙ u.of_ends;
    of_shapes = kept.shapes ∙ u.of_shapes;
    of_lists = kept.lists ∙ u.of_lists;
    marks = kept.marks u.marks;
    chosen = g.added.chosen u.chosen;
    root_is_marked = shape_still old.marks new.marks kept root u.root_is_marked;
    ends = λ k e is.
        ⊎_elim
        (λ (b : (k ≡ id) × (g.end ≡ e)).
        let same : end_view e ≡ end_of shapes k =
        ap end_view (sym b.1) ∙ g.same ∙ ap (end_of shapes) (sym b.0)
        in
        (same, subst (λ x. EndIsMarked shapes every new.marks (end_view x)) b.1 g.marked))
        (λ (b : slice_get old.ends.items k ≡ Some (Some e)).
        let was = u.ends k e b in
        (was.0, end_still shapes every old.marks new.marks kept (end_view e) was.1))
        (set_there old.ends.items id k g.end e
        (subst (λ xs. slice_get xs k ≡ Some (Some e)) g.ends is));
    done = one_more (Shape id) at kept has here;
    sound = λ k h.
        ⊎_elim
        (λ (b : (k ≡ id) × (g.end ≡ h.0)).
        subst (IsMarked new.marks.shapes.items) (sym b.0) (kept.of_shapes id (u.marks.of_order p (Shape id) at)))
        (λ (b : slice_get old.ends.items k ≡ Some (Some h.0)). kept.of_shapes k (u.sound k (h.0, b)))
        (set_there old.ends.items id k g.end h.0 (subst (λ xs. slice_get xs k ≡ Some (Some h.0)) g.ends h.1));
    met = λ strict.
        g.met strict root are ((u.met strict).of_shapes id (u.marks.of_order p (Shape id) at)) (u.met strict);
  }
    where
      kept : AreKept old.marks new.marks
      kept = g.added.kept

      has : (k : ℕ) → HasEnd old.ends.items k → HasEnd new.ends.items k
      has k h =
          subst (λ xs. HasEnd xs k) (sym g.ends) (set_still old.ends.items id k g.end h.0 h.1)

      here : HasEnd new.ends.items id
      here =
          let there : HasEnd (set old.ends.items id (Some g.end)) id =
          (g.end, set_here old.ends.items id g.end (shape_within id at))
          in
          subst (λ xs. HasEnd xs id) (sym g.ends) there

  -- a list is gone through
  pub list_done : (k : ℕ) → slice_get old.marks.order.items p ≡ Some (AList k)
      → AreAdded every old.marks new.marks → new.ends ≡ old.ends
      → ((l : Listed) → slice_get every.lists.items k ≡ Some l
      → All (PartIsMarked shapes every new.marks) (parts_view l.parts.items))
      → AreEveryList shapes every
      → StayMet shapes every old.marks new.marks (λ strict first. NumberIsMet shapes every strict first k)
      → IsReachedSoFar shapes every root (p + 1) new
  list_done k at added same here are met = record {
    of_ends = ap (λ v. length v.items) same ∙ u.of_ends;
    of_shapes = added.kept.shapes ∙ u.of_shapes;
    of_lists = added.kept.lists ∙ u.of_lists;
    marks = added.kept.marks u.marks;
    chosen = added.chosen u.chosen;
    root_is_marked = shape_still old.marks new.marks added.kept root u.root_is_marked;
    ends = λ id e is.
        let was = u.ends id e (subst (λ v. slice_get v.items id ≡ Some (Some e)) same is) in
        (was.0, end_still shapes every old.marks new.marks added.kept (end_view e) was.1);
    done =
        one_more (AList k) at added.kept (λ id h. subst (λ v. HasEnd v.items id) (sym same) h) here;
    sound = λ id h. added.kept.of_shapes id (u.sound id (subst (λ v. HasEnd v.items id) same h));
    met = λ strict.
        met strict root are ((u.met strict).of_lists k (u.marks.of_order p (AList k) at)) (u.met strict);
  }

-- what is read at a position of the order
pub read_order : (order : List Marked) (p : ℕ) (x y : Marked) → p < length order
    → x ≡ get_or order p x → x ≡ y → slice_get order p ≡ Some y
read_order order p x y within read is =
    slice_get-get_or order p x within ∙ ap Some (sym read ∙ is)
