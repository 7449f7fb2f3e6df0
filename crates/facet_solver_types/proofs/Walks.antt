-- Walks from type to type, a step at a time.
use Rattle.std.proofs.Common.{◌≡◌, ◌≢◌, ℕ, zero, suc, ◌-◌, Bool, true, false, cond, List, [], ◌∷◌, ◌++◌, fold, set, refl, ap, ◌∙◌, arith}
use Rattle.facet_solver_types.specs.Walks.{is_marked, is_placed, links_at, reach, with_type}

module _ (links : List (List ℕ)) (over : ℕ) where
  -- a type that is marked, or past the last step
  pub reach_ends : (marks : List Bool) (place : ℕ) → is_marked marks place ≡ true
      → reach links over marks place ≡ marks
  unfolding reach
  reach_ends marks place e = ends over
    where
      ends : (n : ℕ) → reach links n marks place ≡ marks
      ends zero = refl
      ends (suc n) = ap (λ b. cond b marks (fold (reach links n) (set marks place true) (links_at links place))) e

  pub reach_over : (marks : List Bool) (place : ℕ) → over ≡ 0 → reach links over marks place ≡ marks
  unfolding reach
  reach_over marks place e = ap (λ n. reach links n marks place) e

  -- another type
  pub reach_more : (marks : List Bool) (place : ℕ) → over ≢ 0 → is_marked marks place ≡ false
      → reach links over marks place
      ≡ fold (reach links (over - 1)) (set marks place true) (links_at links place)
  unfolding reach
  reach_more marks place some e = more over some
    where
      more : (n : ℕ) → n ≢ 0 → reach links n marks place
          ≡ fold (reach links (n - 1)) (set marks place true) (links_at links place)
      more zero some = absurd (some refl)
      more (suc n) some =
          ap (λ b. cond b marks (fold (reach links n) (set marks place true) (links_at links place))) e
          ∙ (let less : n ≡ suc n - 1 = omega arith in
          ap (λ k. fold (reach links k) (set marks place true) (links_at links place)) less)

  -- a type that is placed, or past the last step
  pub placed_ends : (order : List ℕ) (place : ℕ) → is_placed order place ≡ true
      → with_type links over order place ≡ order
  unfolding with_type
  placed_ends order place e = ends over
    where
      ends : (n : ℕ) → with_type links n order place ≡ order
      ends zero = refl
      ends (suc n) = ap (λ b. cond b order (fold (with_type links n) order (links_at links place) ++ place ∷ [])) e

  pub placed_over : (order : List ℕ) (place : ℕ) → over ≡ 0 → with_type links over order place ≡ order
  unfolding with_type
  placed_over order place e = ap (λ n. with_type links n order place) e

  -- another type
  pub placed_more : (order : List ℕ) (place : ℕ) → over ≢ 0 → is_placed order place ≡ false
      → with_type links over order place
      ≡ fold (with_type links (over - 1)) order (links_at links place) ++ place ∷ []
  unfolding with_type
  placed_more order place some e = more over some
    where
      more : (n : ℕ) → n ≢ 0 → with_type links n order place
          ≡ fold (with_type links (n - 1)) order (links_at links place) ++ place ∷ []
      more zero some = absurd (some refl)
      more (suc n) some =
          ap (λ b. cond b order (fold (with_type links n) order (links_at links place) ++ place ∷ [])) e
          ∙ (let less : n ≡ suc n - 1 = omega arith in
          ap (λ k. fold (with_type links k) order (links_at links place) ++ place ∷ []) less)
