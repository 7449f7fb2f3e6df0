-- What a rule reads of each element of a list, an element at a time.
use Rattle.std.proofs.Common.{◌≡◌, ℕ, ◌+◌, ◌<◌, List, ◌∷◌, ◌++◌, length, get_or, drop, map, Option, Some, None, option_map, Result, Ok, Err, refl, ap, sym, ◌∙◌, add-one, drop-cons, append_assoc}
use Rattle.std.proofs.lemmas.List.{map-append}
use Rattle.std.specs.Option.{option_to_list}
use Rattle.facet_solver_types.specs.declared.fault.Fault.{Fault}
use Rattle.facet_solver_types.specs.Gathered.{Rule, gathered, kept}
use Rattle.facet_solver_types.specs.Pieces.{and_then}
use Rattle.facet_solver_types.proofs.Listed.{before}

-- what was read of an element, and then of the others
abbrev after_one : {B : Type 0} → Result (List B) Fault → Option B → Result (List B) Fault
after_one later found = and_then later (λ others. Ok (option_to_list found ++ others))

one_more : {B : Type 0} (so_far : List B) (found : Option B) (later : Result (List B) Fault)
    → before so_far (after_one later found) ≡ before (so_far ++ option_to_list found) later
one_more so_far found (Ok others) =
    ap Ok (sym (append_assoc so_far (option_to_list found) others))
one_more so_far found (Err fault) = refl

-- an element that was read is seen as what was read of it
seen : {B C : Type 0} (view : C → B) (found : Option C)
    → option_to_list (option_map view found) ≡ map view (option_to_list found)
seen view None = refl
seen view (Some value) = refl

module _ {A B D : Type 0} (rule : Rule A B) (view : D → A) (xs : List D) (at : ℕ) (d : D)
    (within : at < length xs) where
  -- the element, and the others
  turn : gathered rule at (map view (drop at xs))
      ≡ and_then (rule at (view (get_or xs at d)))
      (after_one (gathered rule (at + 1) (map view (drop (at + 1) xs))))
  turn =
      let split : drop at xs ≡ get_or xs at d ∷ drop (at + 1) xs =
      rw (add-one, drop-cons xs at d) refl in
      ap (λ ys. gathered rule at (map view ys)) split

  -- an element that was read
  pub gather_turn : {C : Type 0} (see : C → B) (so_far after : List C) (found : Option C)
      → rule at (view (get_or xs at d)) ≡ Ok (option_map see found)
      → after ≡ so_far ++ option_to_list found
      → before (map see so_far) (gathered rule at (map view (drop at xs)))
      ≡ before (map see after) (gathered rule (at + 1) (map view (drop (at + 1) xs)))
  gather_turn see so_far after found is more =
      let later = gathered rule (at + 1) (map view (drop (at + 1) xs)) in
      let all : map see so_far ++ option_to_list (option_map see found) ≡ map see after =
      ap (λ ys. map see so_far ++ ys) (seen see found)
      ∙ sym (map-append see so_far (option_to_list found))
      ∙ ap (map see) (sym more) in
      ap (before (map see so_far)) (turn ∙ ap (λ r. and_then r (after_one later)) is)
      ∙ one_more (map see so_far) (option_map see found) later
      ∙ ap (λ ys. before ys later) all

module _ {A B C D : Type 0} (rule : ℕ → A → Option B) (view : D → A) (see : C → B)
    (xs : List D) (at : ℕ) (d : D) (within : at < length xs) where
  -- an element that was read by a rule that has no faults
  pub kept_turn : (so_far after : List C) (found : Option C)
      → option_map see found ≡ rule at (view (get_or xs at d))
      → after ≡ so_far ++ option_to_list found
      → map see so_far ++ kept rule at (map view (drop at xs))
      ≡ map see after ++ kept rule (at + 1) (map view (drop (at + 1) xs))
  kept_turn so_far after found is more =
      let split : drop at xs ≡ get_or xs at d ∷ drop (at + 1) xs =
      rw (add-one, drop-cons xs at d) refl in
      let later = kept rule (at + 1) (map view (drop (at + 1) xs)) in
      let one = option_map see found in
      let all : map see so_far ++ option_to_list one ≡ map see after =
      ap (λ ys. map see so_far ++ ys) (seen see found)
      ∙ sym (map-append see so_far (option_to_list found))
      ∙ ap (map see) (sym more) in
      ap (λ ys. map see so_far ++ kept rule at (map view ys)) split
      ∙ ap (λ o. map see so_far ++ (option_to_list o ++ later)) (sym is)
      ∙ sym (append_assoc (map see so_far) (option_to_list one) later)
      ∙ ap (λ ys. ys ++ later) all
