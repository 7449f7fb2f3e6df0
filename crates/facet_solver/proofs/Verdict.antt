-- What a solver says at the end: sets of names within one another.
use Rattle.std.proofs.Common.{◌≡◌, Bool, true, false, ◌||◌, List, [], ◌∷◌, map, refl, sym, ◌∙◌, ⊎_elim}
use Rattle.std.specs.declared.cmp.Ordering.{Ordering}
use Rattle.std.specs.Cmp.{IsTotalOrder}
use Rattle.std.specs.Cmp.Lexicographic.{slice_cmp, nat_list_eq_equiv, texts_ties}
use Rattle.std.specs.FinSet as set
use Rattle.std.specs.List.{list_any, list_all}
use Rattle.std.specs.Ordering.{nat_cmp, eq_by_cmp}
use Rattle.std.proofs.lemmas.Bool.{false≢true, or_cases, or_left, or_right, and_from, and_parts}
use Rattle.std.proofs.lemmas.Cmp.{nat_list_cmp_total, eq_by_cmp_equiv}
use Rattle.facet_solver_shape.specs.Names.{Name, name_eq}
use Rattle.facet_solver_shape.specs.Keys.{Key}
use Rattle.facet_solver_shape.proofs.Finite.{equal}
use Rattle.facet_solver.specs.solver.ByName.{names_among}

-- two tests that hold together are one
pub same_test : (a b : Bool) → (a ≡ true → b ≡ true) → (b ≡ true → a ≡ true) → a ≡ b
same_test true b f g = sym (f refl)
same_test false true f g = g refl
same_test false false f g = refl

module _ {K : Type 0} {R : K → K → Ordering} (o : IsTotalOrder R) (t : set.FinSet R) where
  each_from : (xs : List K) → ((q : K) → list_any (eq_by_cmp R q) xs ≡ true → set.contains t q ≡ true) → list_all (set.contains t) xs ≡ true
  each_from [] h = refl
  each_from (x ∷ xs) h =
      and_from (set.contains t x) (list_all (set.contains t) xs)
      (h x (or_left (eq_by_cmp R x x) (list_any (eq_by_cmp R x) xs) ((eq_by_cmp_equiv o).refl x)))
      (each_from xs (λ q one. h q (or_right (eq_by_cmp R q x) (list_any (eq_by_cmp R q) xs) one)))

  from_each : (xs : List K) → list_all (set.contains t) xs ≡ true → (q : K) → list_any (eq_by_cmp R q) xs ≡ true → set.contains t q ≡ true
  from_each [] h q one = absurd (false≢true one)
  from_each (x ∷ xs) h q one =
      let parts = and_parts (set.contains t x) (list_all (set.contains t) xs) h in
      ⊎_elim
      (λ tie. sym (set.contains_tied o t q x (equal (R q x) tie)) ∙ parts.0)
      (λ later. from_each xs parts.1 q later)
      (or_cases (eq_by_cmp R q x) (list_any (eq_by_cmp R q) xs) one)

  -- a set of listed keys is within another where each of them is in it
  pub is_subset-from_list : (xs : List K) → set.is_subset (set.from_list xs) t ≡ list_all (set.contains t) xs
  is_subset-from_list xs =
      same_test _ _
      (λ within. each_from xs (λ q one. set.is_subset-contains o (set.from_list xs) t within q (set.contains-from_list o xs q ∙ one)))
      (λ each. set.contains-is_subset o (set.from_list xs) t (λ q here. from_each xs each q (sym (set.contains-from_list o xs q) ∙ here)))

named : (keys : List Key) (name : Name) → list_any (eq_by_cmp (slice_cmp nat_cmp) name) (map (λ (k : Key). k.name) keys) ≡ list_any (λ k. name_eq k.name name) keys
named [] name = refl
named (k ∷ keys) name = λ i. (sym (texts_ties name k.name) ∙ nat_list_eq_equiv.symm name k.name) i || named keys name i

-- a name is among those of some keys if one of them bears it
pub contains-names_among : (keys : List Key) (name : Name) → set.contains (names_among keys) name ≡ list_any (λ k. name_eq k.name name) keys
contains-names_among keys name = set.contains-from_list nat_list_cmp_total _ name ∙ named keys name
