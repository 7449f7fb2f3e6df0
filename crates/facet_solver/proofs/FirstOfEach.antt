-- Of some items with shapes the first of each shape.
use Rattle.std.proofs.Common.{◌≡◌, ◌≤◌, ◌<◌, ℕ, Bool, true, false, cond, ◌||◌, ◌&&◌, not, List, [], ◌∷◌, ◌++◌, filter, nat_eq, length, refl, ap, sym, ◌∙◌, append-nil, arith}
use Rattle.std.specs.List.{list_any}
use Rattle.std.proofs.lemmas.Bool.{and_parts, eqb-true, false≢true}
use Rattle.std.proofs.lemmas.Bool.Decides.{Decides-eqb}
use Rattle.std.proofs.lemmas.Cmp.{nat_eq_equiv}
use Rattle.std.proofs.lemmas.List.Elements.{filter-append}
use Rattle.std.proofs.lemmas.Map.Views.{any-filter_same}
use Rattle.facet_solver.specs.solver.FirstOfEach.{first_of_each, is_among}

-- a number that is taken out leaves fewer
shorter : (ids : List ℕ) (k : ℕ) → list_any (λ s. nat_eq s k) ids ≡ true → length (filter (λ s. not (nat_eq s k)) ids) < length ids
shorter [] k has = absurd (false≢true has)
shorter (s ∷ ids) k has = go (nat_eq s k) has (shorter ids k)
  where
    left : List ℕ → List ℕ
    left js = filter (λ j. not (nat_eq j k)) js

    no_longer : (js : List ℕ) → length (left js) ≤ length js
    no_longer [] = omega arith
    no_longer (j ∷ js) = one (not (nat_eq j k)) (no_longer js)
      where
        one : (b : Bool) → length (left js) ≤ length js → length (cond b (j ∷ left js) (left js)) ≤ length (j ∷ js)
        one true low = omega (arith, low)
        one false low = omega (arith, low)

    go : (b : Bool) → (b || list_any (λ j. nat_eq j k) ids) ≡ true → (list_any (λ j. nat_eq j k) ids ≡ true → length (left ids) < length ids)
        → length (cond (not b) (s ∷ left ids) (left ids)) < length (s ∷ ids)
    go true is behind = omega (arith, no_longer ids)
    go false is behind = omega (arith, behind is)

or_last : (a : Bool) {b : Bool} → b ≡ true → (a || b) ≡ true
or_last true e = refl
or_last false e = e

module _ {X : Type 0} (shape_of : X → ℕ) where
  one_more : (p : X → Bool) (xs : List X) (f g : X) (here same : Bool) → p g ≡ not same → f ∷ filter p (cond here xs (xs ++ g ∷ [])) ≡ cond (same || (not same && here)) (f ∷ filter p xs) ((f ∷ filter p xs) ++ g ∷ [])
  one_more p xs f g true true e = refl
  one_more p xs f g true false e = refl
  one_more p xs f g false true e =
      ap (λ k. f ∷ k) (filter-append p xs (g ∷ []) ∙ ap (λ b. filter p xs ++ cond b (g ∷ []) []) e ∙ append-nil (filter p xs))
  one_more p xs f g false false e =
      ap (λ k. f ∷ k) (filter-append p xs (g ∷ []) ∙ ap (λ b. filter p xs ++ cond b (g ∷ []) []) e)

  -- one more item is new, or of a shape that stands there already
  first_of_each-push : (xs : List X) (g : X) → first_of_each shape_of (xs ++ g ∷ []) ≡ cond (is_among shape_of (first_of_each shape_of xs) (shape_of g)) (first_of_each shape_of xs) (first_of_each shape_of xs ++ g ∷ [])
  first_of_each-push [] g = refl
  first_of_each-push (f ∷ fs) g =
      let firsts = first_of_each shape_of fs in
      let other : X → Bool = λ h. not (nat_eq (shape_of h) (shape_of f)) in
      let same = nat_eq (shape_of f) (shape_of g) in
      let here = is_among shape_of firsts (shape_of g) in
      let apart : nat_eq (shape_of g) (shape_of f) ≡ same = nat_eq_equiv.symm (shape_of g) (shape_of f) in
      let left : is_among shape_of (filter other firsts) (shape_of g) ≡ (not same && here) =
      any-filter_same (λ (h : X). nat_eq (shape_of h) (shape_of g)) other (not same) (λ h is. ap (λ id. not (nat_eq id (shape_of f))) (eqb-true (shape_of h) (shape_of g) is) ∙ ap not apart) firsts in
      ap (λ k. f ∷ filter other k) (first_of_each-push fs g)
      ∙ one_more other firsts f g here same (ap not apart)
      ∙ ap (λ b. cond (same || b) (f ∷ filter other firsts) ((f ∷ filter other firsts) ++ g ∷ [])) (sym left)

  -- which it is, where a search told
  pub first_of_each-told : (xs : List X) (g : X) (told : Bool) → is_among shape_of (first_of_each shape_of xs) (shape_of g) ≡ told → first_of_each shape_of (xs ++ g ∷ []) ≡ cond told (first_of_each shape_of xs) (first_of_each shape_of xs ++ g ∷ [])
  first_of_each-told xs g told e =
      first_of_each-push xs g ∙ ap (λ b. cond b (first_of_each shape_of xs) (first_of_each shape_of xs ++ g ∷ [])) e

  filter_both : (p q : X → Bool) (xs : List X) → filter q (filter p xs) ≡ filter (λ x. p x && q x) xs
  filter_both p q [] = refl
  filter_both p q (x ∷ xs) = go (p x) (filter_both p q xs)
    where
      go : (b : Bool) → filter q (filter p xs) ≡ filter (λ y. p y && q y) xs → filter q (cond b (x ∷ filter p xs) (filter p xs)) ≡ cond (b && q x) (x ∷ filter (λ y. p y && q y) xs) (filter (λ y. p y && q y) xs)
      go true later = ap (λ ys. cond (q x) (x ∷ ys) ys) later
      go false later = later

  keep_all : (xs : List X) → xs ≡ filter (λ _. true) xs
  keep_all [] = refl
  keep_all (x ∷ xs) = ap (λ ys. x ∷ ys) (keep_all xs)

  -- where the shapes of items are among some, the first of each are no more than these
  count_within : (xs : List X) (p : ℕ → Bool) (ids : List ℕ) → ((id : ℕ) → p id ≡ true → is_among shape_of xs id ≡ true → list_any (λ s. nat_eq s id) ids ≡ true)
      → length (filter (λ x. p (shape_of x)) (first_of_each shape_of xs)) ≤ length ids
  count_within [] p ids all = omega arith
  count_within (x ∷ xs) p ids all = go (p (shape_of x)) refl (count_within xs)
    where
      firsts : List X
      firsts = first_of_each shape_of xs

      other : ℕ → Bool
      other id = not (nat_eq id (shape_of x))

      both : ℕ → Bool
      both id = other id && p id

      merged : filter (λ y. p (shape_of y)) (filter (λ y. other (shape_of y)) firsts) ≡ filter (λ y. both (shape_of y)) firsts
      merged = filter_both (λ y. other (shape_of y)) (λ y. p (shape_of y)) firsts

      here : p (shape_of x) ≡ true → list_any (λ s. nat_eq s (shape_of x)) ids ≡ true
      here passes = all (shape_of x) passes (ap (λ b. b || is_among shape_of xs (shape_of x)) ((Decides-eqb (shape_of x) (shape_of x)).1 refl))

      there : (id : ℕ) → both id ≡ true → is_among shape_of xs id ≡ true → list_any (λ s. nat_eq s id) ids ≡ true
      there id passes among = all id (and_parts (other id) (p id) passes).1 (or_last (nat_eq (shape_of x) id) among)

      go : (b : Bool) → p (shape_of x) ≡ b
          → ((q : ℕ → Bool) (left : List ℕ) → ((id : ℕ) → q id ≡ true → is_among shape_of xs id ≡ true → list_any (λ s. nat_eq s id) left ≡ true) → length (filter (λ y. q (shape_of y)) firsts) ≤ length left)
          → length (cond b (x ∷ filter (λ y. p (shape_of y)) (filter (λ y. other (shape_of y)) firsts)) (filter (λ y. p (shape_of y)) (filter (λ y. other (shape_of y)) firsts))) ≤ length ids
      go true passes behind =
          let rest = behind both (filter other ids) (λ id passes among.
          any-filter_same (λ s. nat_eq s id) other (other id) (λ s same. ap other (eqb-true s id same)) ids
          ∙ ap (λ b. b && list_any (λ s. nat_eq s id) ids) (and_parts (other id) (p id) passes).0
          ∙ there id passes among) in
          omega (arith, ap length merged, rest, shorter ids (shape_of x) (here passes))
      go false fails behind = omega (arith, ap length merged, behind both ids there)

  pub count_firsts : (xs : List X) (ids : List ℕ) → ((id : ℕ) → is_among shape_of xs id ≡ true → list_any (λ s. nat_eq s id) ids ≡ true) → length (first_of_each shape_of xs) ≤ length ids
  count_firsts xs ids all =
      let counted = count_within xs (λ _. true) ids (λ id _ among. all id among) in
      omega (arith, ap length (keep_all (first_of_each shape_of xs)), counted)
