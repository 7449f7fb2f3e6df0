-- Uses that are found one after the other.
use Rattle.std.proofs.Common.{◌≡◌, ℕ, zero, suc, ◌+◌, List, map, Some, None, Ok, Err, ap, option_map, slice_get, ◌∙◌, arith}
use Rattle.std.proofs.lemmas.Option.{slice_get-map}
use Rattle.facet_solver_types.specs.Understood.{Declaration}
use Rattle.facet_solver_types.specs.UsedTypes.{follows, reached_from, too_many, use_types, with_uses}
use Rattle.facet_solver_types.specs.Uses.{Use}

-- what stands at a place is seen there
pub seen_at : {A B : Type 0} (view : A → B) (xs : List A) (at : ℕ) (x : A)
    → slice_get xs at ≡ Some x → slice_get (map view xs) at ≡ Some (view x)
seen_at view xs at x e = slice_get-map view xs at ∙ ap (option_map view) e

-- what stands nowhere is not seen
pub unseen_at : {A B : Type 0} (view : A → B) (xs : List A) (at : ℕ)
    → slice_get xs at ≡ None → slice_get (map view xs) at ≡ None
unseen_at view xs at e = slice_get-map view xs at ∙ ap (option_map view) e

module _ (declarations : List Declaration) (at : ℕ) (found : List Use) where
  -- no use is left
  pub turns_end : (left : ℕ) → slice_get found at ≡ None
      → reached_from declarations left at found ≡ Ok found
  unfolding reached_from
  turns_end zero none =
      ap (λ o. follows o found (λ used. Err (too_many declarations used))) none
  turns_end (suc left) none =
      ap (λ o. follows o found (λ used. reached_from declarations left (at + 1)
      (with_uses found (use_types declarations used).uses))) none

  -- a use, and no more may follow
  pub turns_stop : (left : ℕ) (used : Use) → left ≡ 0 → slice_get found at ≡ Some used
      → reached_from declarations left at found ≡ Err (too_many declarations used)
  unfolding reached_from
  turns_stop zero used none some =
      ap (λ o. follows o found (λ u. Err (too_many declarations u))) some
  turns_stop (suc left) used none some = absurd (omega arith)

  -- a use, and what it mentions
  pub turns_more : (left fewer : ℕ) (used : Use) → left ≡ fewer + 1
      → slice_get found at ≡ Some used
      → reached_from declarations left at found
      ≡ reached_from declarations fewer (at + 1)
      (with_uses found (use_types declarations used).uses)
  unfolding reached_from
  turns_more zero fewer used more some = absurd (omega arith)
  turns_more (suc left) fewer used more some =
      let same : left ≡ fewer = omega arith in
      ap (λ o. follows o found (λ u. reached_from declarations left (at + 1)
      (with_uses found (use_types declarations u).uses))) some
      ∙ ap (λ n. reached_from declarations n (at + 1)
      (with_uses found (use_types declarations used).uses)) same
