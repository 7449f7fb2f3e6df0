-- What is read of several things, of which some have faults, an element at a time.
use Rattle.std.proofs.Common.{◌≡◌, ℕ, ◌+◌, ◌<◌, List, [], ◌∷◌, ◌++◌, length, get_or, drop, map, Result, Ok, Err, refl, ap, sym, ◌∙◌, add-one, drop-cons}
use Rattle.std.proofs.lemmas.List.{length-map, map-append}
use Rattle.facet_solver_types.specs.declared.fault.Fault.{Fault}
use Rattle.facet_solver_types.specs.declared.gathering.Gathering as declared
use Rattle.facet_solver_types.specs.Gatherings.{Gathering, IsTold, Rule, gathered_after, gathering_view, joined, told}
use Rattle.facet_solver_types.specs.Outcomes.{Gives}

-- these values and faults
abbrev of : {A : Type 0} → List A → List Fault → Gathering A
of values faults = record { values = values; faults = faults }

-- what was gathered of these values and faults is seen so
pub gathered_seen : {A B : Type 0} (see : A → B) (found : declared.Gathering A) (values : List A)
    (faults : List Fault) → found.values.items ≡ values → found.faults.items ≡ faults
    → gathering_view see found ≡ record { values = map see values; faults = faults }
gathered_seen see found values faults of_values of_faults =
    ap (λ vs. of (map see vs) found.faults.items) of_values ∙ ap (of (map see values)) of_faults

-- what was read, or its fault, is seen so
pub told_seen : {A B : Type 0} (see : A → B) (outcome : Result B Fault) (read : Result A Fault)
    (found : declared.Gathering A) → Gives see outcome read → IsTold read found
    → gathering_view see found ≡ told outcome
told_seen see outcome (Ok value) found gives is =
    gathered_seen see found (value ∷ []) [] is.0 is.1 ∙ ap told (sym gives)
told_seen see outcome (Err fault) found gives is =
    gathered_seen see found [] (fault ∷ []) is.1 is.2 ∙ ap told (sym (gives is.0))

-- one, and then another, is seen so
joined_seen : {A B : Type 0} (see : A → B) (found more after : declared.Gathering A)
    → after.values.items ≡ found.values.items ++ more.values.items
    → after.faults.items ≡ found.faults.items ++ more.faults.items
    → joined (gathering_view see found) (gathering_view see more) ≡ gathering_view see after
joined_seen see found more after values faults =
    ap (λ vs. of vs (found.faults.items ++ more.faults.items))
    (sym (map-append see found.values.items more.values.items))
    ∙ sym (gathered_seen see after (found.values.items ++ more.values.items)
    (found.faults.items ++ more.faults.items) values faults)

module _ {A B C D : Type 0} (view : D → A) (see : C → B) (xs : List D) (at : ℕ) (d : D)
    (within : at < length xs) where
  -- an element that was read behind these values, and those behind it
  pub gathering_turn : (rule : Rule A B) (found more after : declared.Gathering C) (values : List C)
      → values ≡ found.values.items
      → gathering_view see more ≡ rule (map see values) (view (get_or xs at d))
      → after.values.items ≡ found.values.items ++ more.values.items
      → after.faults.items ≡ found.faults.items ++ more.faults.items
      → gathered_after rule (gathering_view see found) (map view (drop at xs))
      ≡ gathered_after rule (gathering_view see after) (map view (drop (at + 1) xs))
  gathering_turn rule found more after values same is of_values of_faults =
      let split : drop at xs ≡ get_or xs at d ∷ drop (at + 1) xs =
      rw (add-one, drop-cons xs at d) refl in
      let rest = map view (drop (at + 1) xs) in
      let read : rule (map see found.values.items) (view (get_or xs at d))
      ≡ gathering_view see more =
      ap (λ vs. rule (map see vs) (view (get_or xs at d))) (sym same) ∙ sym is in
      ap (λ ys. gathered_after rule (gathering_view see found) (map view ys)) split
      ∙ ap (λ one. gathered_after rule (joined (gathering_view see found) one) rest) read
      ∙ ap (λ one. gathered_after rule one rest)
      (joined_seen see found more after of_values of_faults)

  -- the same of one that was read behind so many others
  pub numbered_turn : (rule : ℕ → A → Gathering B) (found more after : declared.Gathering C) (n : ℕ)
      → n ≡ length found.values.items
      → gathering_view see more ≡ rule n (view (get_or xs at d))
      → after.values.items ≡ found.values.items ++ more.values.items
      → after.faults.items ≡ found.faults.items ++ more.faults.items
      → gathered_after (λ before. rule (length before)) (gathering_view see found)
      (map view (drop at xs))
      ≡ gathered_after (λ before. rule (length before)) (gathering_view see after)
      (map view (drop (at + 1) xs))
  numbered_turn rule found more after n same is of_values of_faults =
      gathering_turn (λ before. rule (length before)) found more after found.values.items refl
      (is ∙ ap (λ m. rule m (view (get_or xs at d)))
      (same ∙ sym (length-map found.values.items see)))
      of_values of_faults
