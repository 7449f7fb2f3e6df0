-- Two lists side by side, to the end of the shorter one.
use Rattle.std.proofs.Common.{◌≡◌, ℕ, zero, suc, ◌+◌, ◌<◌, min, List, [], ◌∷◌, ◌++◌, ◌⊎◌, inl, inr, length, drop, get_or, map, refl, ap, sym, ◌∙◌, arith, append_assoc, add-one, drop-cons}
use Rattle.std.proofs.Math.Seq.{drop-nil}
use Rattle.std.proofs.lemmas.List.{map-append}
use Rattle.facet_solver_types.specs.Paired.{paired}

-- behind as many as the shorter one has, one of both is at its end
pub either_over : {A B : Type 0} (ks : List A) (vs : List B) (n : ℕ)
    → n ≡ min (length ks) (length vs) → (drop n ks ≡ []) ⊎ (drop n vs ≡ [])
either_over [] vs n e = inl (drop-nil n)
either_over (k ∷ ks) [] n e = inr (drop-nil n)
either_over (k ∷ ks) (v ∷ vs) zero e = absurd (omega arith)
either_over (k ∷ ks) (v ∷ vs) (suc n) e = either_over ks vs n (omega arith)

module _ {A B C D E : Type 0} (f : A → C) (g : B → D) (rule : C → D → E) (xs : List A) (ys : List B) where
  -- what a rule makes of the rest
  abbrev pub rest : ℕ → List E
  rest n = paired rule (map f (drop n xs)) (map g (drop n ys))

  over_right : (cs : List C) → paired rule cs [] ≡ []
  over_right [] = refl
  over_right (c ∷ cs) = refl

  -- nothing is left
  pub paired_over : (n : ℕ) → n ≡ min (length xs) (length ys) → rest n ≡ []
  paired_over n e =
      elim (either_over xs ys n e) [
        | inl e ↦ ap (λ left. paired rule (map f left) (map g (drop n ys))) e
        | inr e ↦ ap (λ left. paired rule (map f (drop n xs)) (map g left)) e
            ∙ over_right (map f (drop n xs))
      ]

  -- the next two, and the rest
  pub paired_turn : (n : ℕ) (a : A) (b : B) → n < length xs → n < length ys
      → rest n ≡ rule (f (get_or xs n a)) (g (get_or ys n b)) ∷ rest (n + 1)
  paired_turn n a b in_xs in_ys =
      let left : drop n xs ≡ get_or xs n a ∷ drop (n + 1) xs = rw (add-one, drop-cons xs n a) refl in
      let right : drop n ys ≡ get_or ys n b ∷ drop (n + 1) ys = rw (add-one, drop-cons ys n b) refl in
      ap (λ l. paired rule (map f l) (map g (drop n ys))) left
      ∙ ap (λ l. paired rule (map f (get_or xs n a ∷ drop (n + 1) xs)) (map g l)) right

  -- a turn of a loop, which adds what the rule makes of the next two
  pub paired_step : {X : Type 0} (view : X → E) (made new : List X) (x : X) (n m : ℕ) (a : A) (b : B)
      → n < length xs → n < length ys → a ≡ get_or xs n a → b ≡ get_or ys n b → m ≡ n + 1
      → view x ≡ rule (f a) (g b) → new ≡ made ++ x ∷ []
      → map view made ++ rest n ≡ map view new ++ rest m
  paired_step view made new x n m a b in_xs in_ys a_is b_is m_is x_is new_is =
      ap (λ l. map view made ++ l) (paired_turn n a b in_xs in_ys)
      ∙ ap (λ p. map view made ++ (rule (f p) (g (get_or ys n b)) ∷ rest (n + 1))) (sym a_is)
      ∙ ap (λ q. map view made ++ (rule (f a) (g q) ∷ rest (n + 1))) (sym b_is)
      ∙ ap (λ y. map view made ++ (y ∷ rest (n + 1))) (sym x_is)
      ∙ sym (append_assoc (map view made) (view x ∷ []) (rest (n + 1)))
      ∙ ap (λ l. l ++ rest (n + 1)) (sym (map-append view made (x ∷ [])))
      ∙ ap (λ l. map view l ++ rest (n + 1)) (sym new_is)
      ∙ ap (λ k. map view new ++ rest k) (sym m_is)
