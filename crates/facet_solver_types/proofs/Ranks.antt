-- Where ranks fall from each type to its needs, no type leads to itself.
use Rattle.std.proofs.Common.{◌≡◌, ◌≢◌, ℕ, zero, suc, ◌<◌, ◌≤◌, ◌⊎◌, inl, inr, Bool, true, false, cond, List, [], ◌∷◌, fold, get_or, length, ltb, replicate, set, refl, sym, ap, ◌∙◌, arith}
use Rattle.std.proofs.lemmas.Bool.{cases_lt, ltb-true}
use Rattle.std.proofs.lemmas.List.{get_or-set_other, get_or_past}
use Rattle.std.proofs.lemmas.List.Elements.{recursion_from_All}
use Rattle.std.proofs.lemmas.List.FromFn.{get_or-range_with_len, length-range_with_len}
use Rattle.std.proofs.lemmas.List.Sums.{AllPass-from_list_all}
use Rattle.std.specs.List.{AllByRecursion, range_with_len}
use Rattle.facet_solver_types.specs.Ranks.{AreAcyclic, are_below, fall, rank}
use Rattle.facet_solver_types.specs.Walks.{is_marked, links_at, reach}

-- none is marked at first
unmarked : (n place : ℕ) → is_marked (replicate n false) place ≡ false
unmarked zero place = refl
unmarked (suc n) zero = refl
unmarked (suc n) (suc place) = unmarked n place

module _ (links : List (List ℕ)) (ranks : List ℕ) where
  -- all that a type leads to has lower ranks
  at_place : fall links ranks ≡ true → (place : ℕ) → (place < length links) ⊎ (length links ≤ place)
      → are_below ranks (rank ranks place) (links_at links place) ≡ true
  at_place e place (inl some) =
      let test = λ (p : ℕ). are_below ranks (rank ranks p) (links_at links p) in
      let count = length-range_with_len 0 (length links) in
      let there : get_or (range_with_len 0 (length links)) place 0 ≡ place =
      get_or-range_with_len 0 (length links) place 0 some ∙ omega arith in
      sym (ap test there)
      ∙ AllPass-from_list_all test (range_with_len 0 (length links)) e place 0 (omega arith)
  at_place e place (inr past) =
      ap (are_below ranks (rank ranks place)) (get_or_past links place [] past)

  module _ (target : ℕ) where
    -- a walk over types of lower ranks doesn't mark the target, if none of its steps does
    fold_keeps : (f : List Bool → ℕ → List Bool) (limit : ℕ)
        → ((marks : List Bool) (p : ℕ) → rank ranks p < limit → is_marked marks target ≡ false
        → is_marked (f marks p) target ≡ false)
        → (places : List ℕ) → AllByRecursion (λ p. ltb (rank ranks p) limit ≡ true) places
        → (marks : List Bool) → is_marked marks target ≡ false
        → is_marked (fold f marks places) target ≡ false
    fold_keeps f limit step [] below marks e = e
    fold_keeps f limit step (p ∷ places) below marks e =
        fold_keeps f limit step places below.1 (f marks p)
        (step marks p (ltb-true (rank ranks p) limit below.0) e)

    -- from one place on
    reach_keeps : ((place : ℕ) → are_below ranks (rank ranks place) (links_at links place) ≡ true)
        → (over : ℕ) (marks : List Bool) (place : ℕ) → rank ranks place < rank ranks target
        → is_marked marks target ≡ false → is_marked (reach links over marks place) target ≡ false
    unfolding reach
    reach_keeps falls zero marks place low e = e
    reach_keeps falls (suc over) marks place low e =
        let limit = rank ranks place in
        let next = links_at links place in
        let other : target ≢ place =
        λ same. let ranked : rank ranks target ≡ limit = ap (rank ranks) same in omega arith in
        let below = recursion_from_All (λ p. ltb (rank ranks p) limit ≡ true) next
        (AllPass-from_list_all (λ p. ltb (rank ranks p) limit) next (falls place)) in
        let walked = fold_keeps (reach links over) limit
        (λ m p lower. reach_keeps falls over m p (omega arith)) next below (set marks place true)
        (get_or-set_other marks place target true false other ∙ e) in
        elim (is_marked marks place) as (λ b.
        is_marked (cond b marks (fold (reach links over) (set marks place true) next)) target ≡ false) [
          | true ↦ e
          | false ↦ walked
        ]

-- no type leads to itself
pub acyclic : (links : List (List ℕ)) (ranks : List ℕ) → fall links ranks ≡ true → AreAcyclic links
acyclic links ranks e place =
    let limit = rank ranks place in
    let next = links_at links place in
    let falls = λ (p : ℕ). at_place links ranks e p (cases_lt p (length links)) in
    let below = recursion_from_All (λ p. ltb (rank ranks p) limit ≡ true) next
    (AllPass-from_list_all (λ p. ltb (rank ranks p) limit) next (falls place)) in
    fold_keeps links ranks place (reach links (length links)) limit
    (λ m p lower. reach_keeps links ranks place falls (length links) m p lower) next below
    (replicate (length links) false) (unmarked (length links) place)
