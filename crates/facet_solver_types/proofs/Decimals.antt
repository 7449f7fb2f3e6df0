-- The digits of a number, from the last.
use Rattle.std.proofs.Common.{◌≡◌, ◌≢◌, ℕ, ◌+◌, ◌/◌, ◌%◌, ◌^◌, ◌<◌, ◌≤◌, ◌↔◌, ◌⊎◌, List, [], ◌∷◌, ◌++◌, length, ap, sym, refl, ◌∙◌, inl, inr, arith}
use Rattle.std.specs.Fmt.{decimal}
use Rattle.std.proofs.lemmas.Bool.{cases_lt}
use Rattle.std.proofs.lemmas.Fmt.{decimal_digit, decimal_step, decimal_nonempty}

-- nothing ends in an element
no_end : (ys : List ℕ) (y : ℕ) → [] ≡ ys ++ y ∷ [] → ⊥
no_end [] y e = absurd (cc)
no_end (b ∷ bs) y e = absurd (cc)

-- lists that end in an element are equal by their fronts and that
pub same_ends : (xs ys : List ℕ) (x y : ℕ) → xs ++ x ∷ [] ≡ ys ++ y ∷ [] → (xs ≡ ys) × (x ≡ y)
same_ends [] [] x y e = (refl, cc)
same_ends [] (b ∷ bs) x y e = let t : [] ≡ bs ++ y ∷ [] = cc in absurd (no_end bs y t)
same_ends (a ∷ as') [] x y e = let t : [] ≡ as' ++ x ∷ [] = cc in absurd (no_end as' x t)
same_ends (a ∷ as') (b ∷ bs) x y e =
    let t : as' ++ x ∷ [] ≡ bs ++ y ∷ [] = cc in
    let rest = same_ends as' bs x y t in
    let first : a ≡ b = cc in
    let front : as' ≡ bs = rest.0 in
    (cc, rest.1)

-- a number ends in its last digit
module _ (n : ℕ) (small : n < 2 ^ 64) where
  -- alone
  one_digit : n < 10 → decimal n ≡ [] ++ (48 + n % 10) ∷ []
  one_digit low = let rest : n % 10 ≡ n = omega arith in decimal_digit n low ∙ ap (λ d. (48 + d) ∷ []) (sym rest)

  ends_in_digit : (front : List ℕ) × (decimal n ≡ front ++ (48 + n % 10) ∷ [])
  ends_in_digit = go (cases_lt n 10)
    where
      go : (n < 10) ⊎ (10 ≤ n) → (front : List ℕ) × (decimal n ≡ front ++ (48 + n % 10) ∷ [])
      go (inl low) = ([], one_digit low)
      go (inr high) = (decimal (n / 10), decimal_step n high small)

  -- nothing is no number
  pub no_digit : (digits : List ℕ) → length digits ≡ 0 → digits ≡ decimal n → ⊥
  no_digit digits none e =
      let some = decimal_nonempty n small in
      let same = ap length e in
      absurd (omega arith)

  module _ (digits front : List ℕ) (last : ℕ) (split : digits ≡ front ++ last ∷ []) where
    -- what ends otherwise is not the number
    pub other_last : last ≢ 48 + n % 10 → digits ≡ decimal n → ⊥
    other_last differs e =
        differs (same_ends front ends_in_digit.0 last (48 + n % 10) (sym split ∙ e ∙ ends_in_digit.1)).1

    -- one digit is the number where nothing is before it
    pub alone : last ≡ 48 + n % 10 → n < 10 → (front ≡ []) ↔ (digits ≡ decimal n)
    alone is low = (
      λ none. split ∙ ap (λ ys. ys ++ last ∷ []) none ∙ ap (λ d. d ∷ []) is ∙ sym (one_digit low),
      λ e. (same_ends front [] last (48 + n % 10) (sym split ∙ e ∙ one_digit low)).0,
    )

    -- more digits are the number where the others are its tens
    pub behind_tens : last ≡ 48 + n % 10 → 10 ≤ n → (front ≡ decimal (n / 10)) ↔ (digits ≡ decimal n)
    behind_tens is high = (
      λ tens.
          split ∙ ap (λ ys. ys ++ last ∷ []) tens ∙ ap (λ d. decimal (n / 10) ++ d ∷ []) is
          ∙ sym (decimal_step n high small),
      λ e.
          (same_ends front (decimal (n / 10)) last (48 + n % 10)
          (sym split ∙ e ∙ decimal_step n high small)).0,
    )
