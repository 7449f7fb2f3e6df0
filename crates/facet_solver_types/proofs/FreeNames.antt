-- No variant has the number and the `_` under which another is declared.
use Rattle.std.proofs.Common.{◌≡◌, ℕ, zero, suc, ◌+◌, ◌-◌, ◌<◌, ◌≤◌, ◌⊎◌, inl, inr, Bool, true, false, cond, eqb, ◌||◌, List, [], ◌∷◌, length, map, replicate, ap, sym, refl, ◌∙◌, arith}
use Rattle.std.specs.Fmt.{decimal}
use Rattle.std.specs.List.{list_any}
use Rattle.std.proofs.lemmas.Bool.{cases_lt, false≢true}
use Rattle.std.proofs.lemmas.Bool.Decides.{nat_tests}
use Rattle.std.proofs.lemmas.List.{length-append, length-replicate, length-map}
use Rattle.std.proofs.lemmas.Slice.Eq.{bytes_eq-Decides}
use Rattle.facet_solver_shape.specs.Names.{Name, name_eq}
use Rattle.facet_solver_types.specs.Cases.{underscore}
use Rattle.facet_solver_types.specs.PrintedNames.{numbered, is_taken, marks_from, marks_of}

-- where one of two tests passes, the first does or the second
either : (a b : Bool) → (a || b) ≡ true → (a ≡ true) ⊎ (b ≡ true)
either true b e = inl refl
either false b e = inr e

-- whether a number is in a list
has : ℕ → List ℕ → Bool
has k = list_any (λ j. eqb j k)

-- a list without a number
without : ℕ → List ℕ → List ℕ
without m [] = []
without m (k ∷ ks) = cond (eqb k m) (without m ks) (k ∷ without m ks)

without_here : (m k : ℕ) (ks : List ℕ) → eqb k m ≡ true → without m (k ∷ ks) ≡ without m ks
unfolding without
without_here m k ks e = ap (λ b. cond b (without m ks) (k ∷ without m ks)) e

without_there : (m k : ℕ) (ks : List ℕ) → eqb k m ≡ false → without m (k ∷ ks) ≡ k ∷ without m ks
unfolding without
without_there m k ks e = ap (λ b. cond b (without m ks) (k ∷ without m ks)) e

no_longer : (m : ℕ) (ks : List ℕ) → length (without m ks) ≤ length ks
unfolding without
no_longer m [] = omega arith
no_longer m (k ∷ ks) = go (eqb k m) refl (no_longer m ks)
  where
    go : (b : Bool) → eqb k m ≡ b → length (without m ks) ≤ length ks → length (without m (k ∷ ks)) ≤ length (k ∷ ks)
    go true e rest = let same = ap length (without_here m k ks e) in omega arith
    go false e rest = let same = ap length (without_there m k ks e) in omega arith

-- a list that has a number is longer than without it
longer : (m : ℕ) (ks : List ℕ) → has m ks ≡ true → length (without m ks) < length ks
unfolding has
longer m [] e = absurd (false≢true e)
longer m (k ∷ ks) e = go (eqb k m) refl (λ there. longer m ks there)
  where
    go : (b : Bool) → eqb k m ≡ b → (has m ks ≡ true → length (without m ks) < length ks)
        → length (without m (k ∷ ks)) < length (k ∷ ks)
    go true t later = let same = ap length (without_here m k ks t) in let rest = no_longer m ks in omega arith
    go false t later =
        let there : has m ks ≡ true = ap (λ b. b || has m ks) (sym t) ∙ e in
        let same = ap length (without_there m k ks t) in
        let rest = later there in omega arith

-- and other numbers stay
stays : (m j : ℕ) (ks : List ℕ) → j < m → has j ks ≡ true → has j (without m ks) ≡ true
unfolding has
stays m j [] less e = absurd (false≢true e)
stays m j (k ∷ ks) less e = go (eqb k m) refl (λ there. stays m j ks less there)
  where
    here : (b : Bool) → eqb k j ≡ b → (has j ks ≡ true → has j (without m ks) ≡ true) → (eqb k j || has j (without m ks)) ≡ true
    here true s later = ap (λ b. b || has j (without m ks)) s
    here false s later =
        let there : has j ks ≡ true = ap (λ b. b || has j ks) (sym s) ∙ e in
        ap (λ b. b || has j (without m ks)) s ∙ later there

    go : (b : Bool) → eqb k m ≡ b → (has j ks ≡ true → has j (without m ks) ≡ true) → has j (without m (k ∷ ks)) ≡ true
    go true t later =
        let other : eqb k j ≡ false = grind (arith, nat_tests) in
        let there : has j ks ≡ true = ap (λ b. b || has j ks) (sym other) ∙ e in
        ap (has j) (without_here m k ks t) ∙ later there
    go false t later = ap (has j) (without_there m k ks t) ∙ here (eqb k j) refl later

-- a list that has all numbers below one is as long
as_long : (m : ℕ) (ks : List ℕ) → ((j : ℕ) → j < m → has j ks ≡ true) → m ≤ length ks
as_long zero ks all = omega arith
as_long (suc m) ks all =
    let fewer = as_long m (without m ks) (λ j less. stays m j ks less (all j (omega arith))) in
    let more = longer m ks (all m (omega arith)) in
    omega arith

module _ (names : List Name) (n : ℕ) where
  -- how many `_` a name would have
  marks_in : Name → ℕ
  marks_in x = length x - length (numbered n 0)

  marks_in_numbered : (k : ℕ) → marks_in (numbered n k) ≡ k
  unfolding marks_in
  marks_in_numbered k =
      let none = length-append (decimal n) (replicate 0 underscore) in
      let some = length-append (decimal n) (replicate k underscore) in
      let count = length-replicate k underscore in
      omega arith

  -- so many `_` are in a list of names where they are taken
  has_taken : (k : ℕ) (xs : List Name) → is_taken xs n k ≡ true → has k (map marks_in xs) ≡ true
  unfolding has
  has_taken k [] e = absurd (false≢true e)
  has_taken k (x ∷ xs) e =
      elim (either (name_eq x (numbered n k)) (is_taken xs n k) e) [
        | inl same ↦
            let marks : marks_in x ≡ k =
            ap marks_in ((bytes_eq-Decides x (numbered n k)).0 same) ∙ marks_in_numbered k in
            let yes : eqb (marks_in x) k ≡ true = grind (arith, nat_tests) in
            ap (λ b. b || has k (map marks_in xs)) yes
        | inr later ↦ there (eqb (marks_in x) k) (has_taken k xs later)
      ]
    where
      there : (b : Bool) → has k (map marks_in xs) ≡ true → (b || has k (map marks_in xs)) ≡ true
      there true e = refl
      there false e = e

  -- what the tries find is free, or all were taken
  found : (marks tries : ℕ) → ((j : ℕ) → j < marks → is_taken names n j ≡ true)
      → (is_taken names n (marks_from names n marks tries) ≡ false)
      ⊎ ((marks_from names n marks tries ≡ marks + tries) × ((j : ℕ) → j < marks + tries → is_taken names n j ≡ true))
  found marks zero before = inr (omega arith, λ j less. before j (omega arith))
  found marks (suc tries) before = go (is_taken names n marks) refl (λ until. found (marks + 1) tries until)
    where
      one_more : is_taken names n marks ≡ true → (j : ℕ) → (j < marks) ⊎ (marks ≤ j) → j < marks + 1 → is_taken names n j ≡ true
      one_more taken j (inl less) within = before j less
      one_more taken j (inr more) within =
          let same : j ≡ marks = omega arith in ap (is_taken names n) same ∙ taken

      go : (b : Bool) → is_taken names n marks ≡ b
          → (((j : ℕ) → j < marks + 1 → is_taken names n j ≡ true)
          → (is_taken names n (marks_from names n (marks + 1) tries) ≡ false)
          ⊎ ((marks_from names n (marks + 1) tries ≡ marks + 1 + tries) × ((j : ℕ) → j < marks + 1 + tries → is_taken names n j ≡ true)))
          → (is_taken names n (marks_from names n marks (suc tries)) ≡ false)
          ⊎ ((marks_from names n marks (suc tries) ≡ marks + suc tries) × ((j : ℕ) → j < marks + suc tries → is_taken names n j ≡ true))
      go false vacant later =
          let here : marks_from names n marks (suc tries) ≡ marks =
          ap (λ b. cond b (marks_from names n (marks + 1) tries) marks) vacant in
          inl (ap (is_taken names n) here ∙ vacant)
      go true taken later =
          let next : marks_from names n marks (suc tries) ≡ marks_from names n (marks + 1) tries =
          ap (λ b. cond b (marks_from names n (marks + 1) tries) marks) taken in
          elim (later (λ j less. one_more taken j (cases_lt j marks) less)) [
            | inl vacant ↦ inl (ap (is_taken names n) next ∙ vacant)
            | inr all ↦
                let last = all.0 in
                let count : marks + 1 + tries ≡ marks + suc tries = omega arith in
                inr (next ∙ last ∙ count, λ j less. all.1 j (omega arith))
          ]

  -- no name is the number with as many `_` as it gets
  pub free : is_taken names n (marks_of names n) ≡ false
  free = go (is_taken names n (marks_of names n)) refl
    where
      go : (b : Bool) → is_taken names n (marks_of names n) ≡ b → is_taken names n (marks_of names n) ≡ false
      go false e = e
      go true e =
          elim (found 0 (length names) (λ j less. absurd (omega arith))) [
            | inl none ↦ none
            | inr all ↦ absurd (too_many all.0 all.1)
          ]
        where
          too_many : marks_of names n ≡ 0 + length names → ((j : ℕ) → j < 0 + length names → is_taken names n j ≡ true) → ⊥
          too_many last all =
              let each : (j : ℕ) → j < suc (length names) → has j (map marks_in names) ≡ true =
              λ j less. has_taken j names (below j (cases_lt j (length names)) less) in
              let long = as_long (suc (length names)) (map marks_in names) each in
              let same : length (map marks_in names) ≡ length names = simp length-map in
              absurd (omega arith)
            where
              below : (j : ℕ) → (j < length names) ⊎ (length names ≤ j) → j < suc (length names) → is_taken names n j ≡ true
              below j (inl less) within = all j (omega arith)
              below j (inr more) within =
                  let here : j ≡ marks_of names n = omega arith in ap (is_taken names n) here ∙ e
