-- Chains of pointees: how long they are, which have no end, and where the others end.
use Rattle.std.proofs.Common.{◌≡◌, ℕ, zero, suc, ◌+◌, ◌<◌, ◌≤◌, Bool, true, false, eqb, List, [], ◌∷◌, length, Some, None, Option, slice_get, refl, sym, ap, ◌∙◌, inl, inr, arith, ◌++◌}
use Rattle.std.specs.Option.{option_and_then, is_some, option_map_or}
use Rattle.std.specs.List.{list_any, AllByRecursion, IsDistinct, Any}
use Rattle.std.proofs.lemmas.Bool.{or_cases, eqb-true, ne_eqb, false≢true, cases_lt}
use Rattle.std.proofs.lemmas.Option.{slice_get_within}
use Rattle.std.proofs.lemmas.Map.Keys.{IsDistinct-cons}
use Rattle.std.proofs.lemmas.Map.Steps.{length-le_from_distinct_below}
use Rattle.facet_solver_shape.specs.declared.shape.Shape.{Shape}
use Rattle.facet_solver_shape.specs.Pointers.{pointee_of_kind, pointee_at, pointee_after, NeverEnds, end_within, end_of, IsEndOf}
use Rattle.std.proofs.lemmas.List.Quantifiers.{Any-push}
use Rattle.facet_solver_shape.specs.declared.shape.ShapeKind.{ShapeKind}
use Rattle.facet_solver_shape.specs.declared.shape.ShapeKind.TheVariants.{Pointer}
use Rattle.facet_solver_shape.specs.declared.shape.catalogue.CatalogueError.TheVariants.{OutOfRange, PointerCycle}
use Rattle.facet_solver_shape.specs.Catalogues.{early_indices, late_indices_of_kind, IsChecked}

module _ (shapes : List Shape) where
  -- the way from an index ends after n pointees
  abbrev pub EndsIn : ℕ → ℕ → Type 0
  EndsIn zero index = pointee_at shapes index ≡ None
  EndsIn (suc n) index = (next : ℕ) × (pointee_at shapes index ≡ Some next) × EndsIn n next

  -- only an index of the list leads on
  pub within : (index next : ℕ) → pointee_at shapes index ≡ Some next → index < length shapes
  within index next leads = go (slice_get shapes index) refl leads
    where
      go : (o : Option Shape) → slice_get shapes index ≡ o → option_and_then (λ s. pointee_of_kind s.kind) o ≡ Some next → index < length shapes
      go None is leads = cc
      go (Some s) is leads = slice_get_within shapes index s is

  -- a way has one length
  pub one_length : (n m index : ℕ) → EndsIn n index → EndsIn m index → n ≡ m
  one_length zero zero index ends same = refl
  one_length zero (suc m) index ends same = let impossible : None ≡ Some same.0 = sym ends ∙ same.1 in cc
  one_length (suc n) zero index ends same = let impossible : None ≡ Some ends.0 = sym same ∙ ends.1 in cc
  one_length (suc n) (suc m) index ends same =
      let both : Some ends.0 ≡ Some same.0 = sym ends.1 ∙ same.1 in
      let next : ends.0 ≡ same.0 = cc in
      ap suc (one_length n m same.0 (rw next at ends.2) same.2)

  -- a way that is over after n pointees has ended in fewer
  pub ends : (n index : ℕ) → pointee_after shapes n index ≡ None → (e : ℕ) × (e < n) × EndsIn e index
  ends zero index over = cc
  ends (suc n) index over = go (pointee_at shapes index) refl over (ends n)
    where
      go : (o : Option ℕ) → pointee_at shapes index ≡ o → option_and_then (pointee_after shapes n) o ≡ None
          → ((next : ℕ) → pointee_after shapes n next ≡ None → (e : ℕ) × (e < n) × EndsIn e next) → (e : ℕ) × (e < suc n) × EndsIn e index
      go None is over rest = (zero, omega arith, is)
      go (Some next) is over rest = let r = rest next over in (suc r.0, omega arith, (next, is, r.2))

  -- and is over after any more
  pub over : (e n index : ℕ) → EndsIn e index → e < n → pointee_after shapes n index ≡ None
  over e zero index ends lt = absurd (omega arith)
  over zero (suc n) index ends lt = ap (option_and_then (pointee_after shapes n)) ends
  over (suc e) (suc n) index ends lt = ap (option_and_then (pointee_after shapes n)) ends.1 ∙ over e n ends.0 ends.2 (omega arith)

  -- the indices that lead on, along a way
  way : (n index : ℕ) → EndsIn n index → List ℕ
  way zero index ends = []
  way (suc n) index ends = index ∷ way n ends.0 ends.2

  length-way : (n index : ℕ) (ends : EndsIn n index) → length (way n index ends) ≡ n
  unfolding way
  length-way zero index ends = refl
  length-way (suc n) index ends = ap suc (length-way n ends.0 ends.2)

  -- no index comes again: the way from it would have two lengths
  later : (k x : ℕ) → EndsIn k x → (n index : ℕ) (ends : EndsIn n index) → n < k → AllByRecursion (λ y. eqb x y ≡ false) (way n index ends)
  unfolding way
  later k x longer zero index ends lt = tt
  later k x longer (suc n) index ends lt =
      let apart : x ≡ index → ⊥ = λ same. let one = one_length k (suc n) index (rw same at longer) ends in absurd (omega arith) in
      (ne_eqb x index apart, later k x longer n ends.0 ends.2 (omega arith))

  distinct : (n index : ℕ) (ends : EndsIn n index) → IsDistinct eqb (way n index ends)
  unfolding way IsDistinct
  distinct zero index ends = tt
  distinct (suc n) index ends =
      IsDistinct-cons eqb index (way n ends.0 ends.2) (later (suc n) index ends n ends.0 ends.2 (omega arith)) (distinct n ends.0 ends.2)

  inside : (n index : ℕ) (ends : EndsIn n index) (q : ℕ) → list_any (eqb q) (way n index ends) ≡ true → q < length shapes
  unfolding way
  inside zero index ends q found = absurd (false≢true found)
  inside (suc n) index ends q found = elim (or_cases (eqb q index) (list_any (eqb q) (way n ends.0 ends.2)) found) [
    | inl here ↦ rw (eqb-true q index here) (within index ends.0 ends.1)
    | inr there ↦ inside n ends.0 ends.2 q there
  ]

  -- so no way is longer than the list
  pub no_longer : (n index : ℕ) → EndsIn n index → n ≤ length shapes
  no_longer n index ends =
      let few = length-le_from_distinct_below (way n index ends) (length shapes) (distinct n index ends) (inside n index ends) in
      rw (length-way n index ends) at few

  -- a way that is not over after more pointees than there are shapes has no end
  pub endless : (m index next : ℕ) → length shapes < m → pointee_after shapes m index ≡ Some next → NeverEnds shapes index
  endless m index next far leads n = go (pointee_after shapes n index) refl
    where
      go : (o : Option ℕ) → pointee_after shapes n index ≡ o → is_some (pointee_after shapes n index) ≡ true
      go (Some x) is = ap is_some is
      go None is =
          let ended = ends n index is in
          let few = no_longer ended.0 index ended.2 in
          let none : None ≡ Some next = sym (over ended.0 m index ended.2 (omega (arith, few, far))) ∙ leads in
          cc

  -- and any other ends
  pub comes_to_end : (index : ℕ) → ¬ NeverEnds shapes index → (e : ℕ) × (e ≤ length shapes) × EndsIn e index
  comes_to_end index not = go (pointee_after shapes (suc (length shapes)) index) refl
    where
      go : (o : Option ℕ) → pointee_after shapes (suc (length shapes)) index ≡ o → (e : ℕ) × (e ≤ length shapes) × EndsIn e index
      go (Some x) is = absurd (not (endless (suc (length shapes)) index x (omega arith) is))
      go None is = let ended = ends (suc (length shapes)) index is in (ended.0, omega (arith, ended.1), ended.2)

  -- here is what n pointees lead to from an index
  abbrev pub LeadsTo : ℕ → ℕ → ℕ → Type 0
  LeadsTo i index here = (n : ℕ) → pointee_after shapes (i + n) index ≡ pointee_after shapes n here

  pub leads_on : (i index here next : ℕ) → LeadsTo i index here → pointee_at shapes here ≡ Some next → LeadsTo (i + 1) index next
  leads_on i index here next leads is n =
      let more : i + 1 + n ≡ i + suc n = omega arith in
      rw (more, leads (suc n), is) refl

  pub ends_here : (i index here : ℕ) → LeadsTo i index here → pointee_at shapes here ≡ None → ¬ NeverEnds shapes index
  ends_here i index here leads is never =
      let over : pointee_after shapes (i + 1) index ≡ None = leads 1 ∙ ap (option_and_then (pointee_after shapes 0)) is in
      false≢true (sym (ap is_some over) ∙ never (i + 1))

  -- a way has an end where it leads to an index from where there is one
  pub ends_there : (i index here : ℕ) → LeadsTo i index here → ¬ NeverEnds shapes here → ¬ NeverEnds shapes index
  ends_there i index here leads not never = not (λ n. sym (ap is_some (leads n)) ∙ never (i + n))

  -- and from a pointee there is one where there is from the pointer
  pub pointee_ends : (index next : ℕ) → pointee_at shapes index ≡ Some next → ¬ NeverEnds shapes index → ¬ NeverEnds shapes next
  pointee_ends index next leads not never = not on
    where
      on : NeverEnds shapes index
      on zero = refl
      on (suc n) = ap (λ o. is_some (option_and_then (pointee_after shapes n) o)) leads ∙ never n

  still_on : (i index here next : ℕ) → LeadsTo i index here → length shapes ≤ i → pointee_at shapes here ≡ Some next → NeverEnds shapes index
  still_on i index here next leads far is =
      endless (i + 1) index next (omega (arith, far)) (leads 1 ∙ ap (option_and_then (pointee_after shapes 0)) is)

  -- whether one more pointee follows on as many as there are shapes tells whether a way has no end
  pub told_by_one_more : (i index here : ℕ) → LeadsTo i index here → length shapes ≤ i → (r : Bool) → r ≡ is_some (pointee_at shapes here) → (r ≡ true → NeverEnds shapes index) × (NeverEnds shapes index → r ≡ true)
  told_by_one_more i index here leads far r is = go (pointee_at shapes here) refl
    where
      go : (o : Option ℕ) → pointee_at shapes here ≡ o → (r ≡ true → NeverEnds shapes index) × (NeverEnds shapes index → r ≡ true)
      go None none = (λ yes. absurd (false≢true (sym (is ∙ ap is_some none) ∙ yes)), λ never. absurd (ends_here i index here leads none never))
      go (Some next) some = (λ yes. still_on i index here next leads far some, λ never. is ∙ ap is_some some)

module _ (shapes : List Shape) where
  -- the end of a way
  end_reached : (e n index : ℕ) → EndsIn shapes e index → e ≤ n → IsEndOf shapes index (end_within shapes n index)
  end_reached zero n index ends le = let same = stays n in rw same (record { steps = zero; reached = refl; last = ends })
    where
      stays : (n : ℕ) → end_within shapes n index ≡ index
      stays zero = refl
      stays (suc n) = rw ends refl
  end_reached (suc e) zero index ends le = absurd (omega (arith, le))
  end_reached (suc e) (suc n) index ends le =
      let rest = end_reached e n ends.0 ends.2 (omega (arith, le)) in
      let here : end_within shapes (suc n) index ≡ end_within shapes n ends.0 = rw ends.1 refl in
      rw here (record { steps = suc rest.steps; reached = rw ends.1 rest.reached; last = rest.last })

  -- the one end
  pub one_end : (index x y : ℕ) → IsEndOf shapes index x → IsEndOf shapes index y → x ≡ y
  one_end index x y at_x at_y = go at_x.steps at_y.steps index at_x.reached at_y.reached
    where
      go : (n m index : ℕ) → pointee_after shapes n index ≡ Some x → pointee_after shapes m index ≡ Some y → x ≡ y
      go zero zero index to_x to_y = cc
      go zero (suc m) index to_x to_y =
          let here : index ≡ x = cc in
          let none : None ≡ Some y = sym (ap (option_and_then (pointee_after shapes m)) (rw (sym here) at at_x.last)) ∙ to_y in
          cc
      go (suc n) zero index to_x to_y =
          let here : index ≡ y = cc in
          let none : None ≡ Some x = sym (ap (option_and_then (pointee_after shapes n)) (rw (sym here) at at_y.last)) ∙ to_x in
          cc
      go (suc n) (suc m) index to_x to_y = step (pointee_at shapes index) to_x to_y (go n m)
        where
          step : (o : Option ℕ) → option_and_then (pointee_after shapes n) o ≡ Some x → option_and_then (pointee_after shapes m) o ≡ Some y
              → ((p : ℕ) → pointee_after shapes n p ≡ Some x → pointee_after shapes m p ≡ Some y → x ≡ y) → x ≡ y
          step None to_x to_y rest = cc
          step (Some p) to_x to_y rest = rest p to_x to_y

  -- how many pointees lead on from an index, n at the most
  abbrev pub steps_within : ℕ → ℕ → ℕ
  steps_within zero index = zero
  steps_within (suc n) index = option_map_or (λ next. suc (steps_within n next)) (pointee_at shapes index) zero

  -- how many lead to its end
  abbrev pub steps_left : ℕ → ℕ
  steps_left index = steps_within (length shapes) index

  steps_counted : (e n index : ℕ) → EndsIn shapes e index → e ≤ n → steps_within n index ≡ e
  steps_counted e zero index ends le = omega (arith, le)
  steps_counted zero (suc n) index ends le = rw ends refl
  steps_counted (suc e) (suc n) index ends le = rw ends.1 (ap suc (steps_counted e n ends.0 ends.2 (omega (arith, le))))

  -- in a catalogue
  module _ (checked : IsChecked shapes) where
    -- every way ends
    pub way_ends : (index : ℕ) → (e : ℕ) × (e ≤ length shapes) × EndsIn shapes e index
    way_ends index = comes_to_end shapes index (checked.faultless (PointerCycle index))

    -- at its end
    pub end_of_is_end : (index : ℕ) → IsEndOf shapes index (end_of shapes index)
    end_of_is_end index = let way = way_ends index in end_reached way.0 (length shapes) index way.2 way.1

    pub is_end_of : (index end : ℕ) → IsEndOf shapes index end → end ≡ end_of shapes index
    is_end_of index end at = one_end index end (end_of shapes index) at (end_of_is_end index)

    -- a shape that leads nowhere is its own end
    pub end_of-last : (index : ℕ) → pointee_at shapes index ≡ None → end_of shapes index ≡ index
    end_of-last index last = sym (is_end_of index index (record { steps = zero; reached = refl; last = last }))

    -- a pointer ends where its pointee ends
    pub end_of-next : (index next : ℕ) → pointee_at shapes index ≡ Some next → end_of shapes index ≡ end_of shapes next
    end_of-next index next leads =
        let rest = end_of_is_end next in
        sym (is_end_of index (end_of shapes next) (record { steps = suc rest.steps; reached = rw leads rest.reached; last = rest.last }))

    pub fewer_steps : (index next : ℕ) → pointee_at shapes index ≡ Some next → steps_left next < steps_left index
    fewer_steps index next leads =
        let way = way_ends next in
        let longer : EndsIn shapes (suc way.0) index = (next, leads, way.2) in
        let here = steps_counted (suc way.0) (length shapes) index longer (no_longer shapes (suc way.0) index longer) in
        let there = steps_counted way.0 (length shapes) next way.2 way.1 in
        omega (arith, here, there)

    -- a pointee is of the catalogue
    pub pointee_within : (index next : ℕ) → pointee_at shapes index ≡ Some next → next < length shapes
    pointee_within index next leads = elim (cases_lt next (length shapes)) [
      | inl less ↦ less
      | inr past ↦ absurd (go (slice_get shapes index) refl leads past)
    ]
      where
        go : (o : Option Shape) → slice_get shapes index ≡ o → option_and_then (λ s. pointee_of_kind s.kind) o ≡ Some next → length shapes ≤ next → ⊥
        go None is leads past = cc
        go (Some s) is leads past = checked.faultless (OutOfRange index) (rw is (of_kind s.kind leads))
          where
            of_kind : (k : ShapeKind) → pointee_of_kind k ≡ Some next → Any (λ p. length shapes ≤ p) (early_indices s ++ late_indices_of_kind k)
            of_kind (Pointer None) leads = cc
            of_kind (Pointer (Some p)) leads = let same : p ≡ next = cc in rw same (Any-push _ (early_indices s) next past)
            of_kind _ leads = cc
