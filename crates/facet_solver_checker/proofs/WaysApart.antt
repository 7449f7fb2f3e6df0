-- Two lists of ways that a table sets apart read no value in common.
use Rattle.std.proofs.Common.{◌≡◌, ◌∙◌, sym, ap, subst, refl, inl, inr, ⊎_elim, ℕ, zero, suc, List}
use Rattle.std.proofs.Common.{[], ◌∷◌, Option, Some, None, Bool, true, false, not, ◌&&◌, ◌||◌}
use Rattle.std.proofs.Common.{slice_get}
use Rattle.std.specs.List.{list_all}
use Rattle.facet_solver_reader.specs.Documents.{Tree}
use Rattle.facet_solver_reader.specs.Objects.{Reads}
use Rattle.facet_solver_reader.specs.Plans.{Meaning}
use Rattle.facet_solver_checker.specs.declared.apart.Apart.{Apart}
use Rattle.facet_solver_checker.specs.declared.ways.Ways.{Ways}
use Rattle.facet_solver_checker.specs.Aparts.{is_apart, left}
use Rattle.facet_solver_checker.specs.Pairs.{AreAmong}
use Rattle.facet_solver_checker.specs.PlanMembers.{IsIn, IsReadAmong}
use Rattle.facet_solver_checker.specs.Ways.{IsReadIn, all_apart, has_no_way, is_apart_from, is_nil}
use Rattle.facet_solver_checker.specs.Ways.{ways_apart}

-- both are true where their conjunction is
pub and_first : (a b : Bool) → (a && b) ≡ true → a ≡ true
and_first true b h = refl
and_first false b h = absurd (cc)

pub and_second : (a b : Bool) → (a && b) ≡ true → b ≡ true
and_second true b h = h
and_second false b h = absurd (cc)

-- what is true implies the other
implied : (a b : Bool) → (not a || b) ≡ true → a ≡ true → b ≡ true
implied true b h e = h
implied false b h e = absurd (cc)

-- what is not true is not
pub not_true : (a : Bool) → not a ≡ true → a ≡ true → ⊥
not_true true h e = absurd (cc)
not_true false h e = absurd (cc)

-- a test that each element passes, one passes
pub each_passes : {X : Type 0} (p : X → Bool) (x : X) (xs : List X) → list_all p xs ≡ true
    → IsIn x xs → p x ≡ true
each_passes p x [] all (k, at) = absurd (cc)
each_passes p x (y ∷ xs) all (zero, at) =
    let same : y ≡ x = cc in subst (λ z. p z ≡ true) same (and_first (p y) (list_all p xs) all)
each_passes p x (y ∷ xs) all (suc k, at) =
    each_passes p x xs (and_second (p y) (list_all p xs) all) (k, at)

-- nothing stands in an empty list
nil_has_none : (n : ℕ) (ns : List ℕ) → is_nil ns ≡ true → IsIn n ns → ⊥
nil_has_none n [] e (k, at) = absurd (cc)
nil_has_none n (x ∷ ns) e (k, at) = absurd (cc)

-- where there is no way, no value is read in one
none_reads : (m : Meaning) (reads : Reads) (w : Ways) (v : Tree) → has_no_way w ≡ true
    → IsReadIn m reads w v → ⊥
none_reads m reads w v none read =
    ⊎_elim
    (λ (any : w.any ≡ true).
    not_true w.any (and_first (not w.any) (is_nil w.targets.items) none) any)
    (λ (r : IsReadAmong m reads w.targets.items v).
    nil_has_none r.number w.targets.items
    (and_second (not w.any) (is_nil w.targets.items) none) r.among) read

module _ (m : Meaning) (apart : Apart) (reads : Reads)
    (among : AreAmong (left m apart) reads reads) where
  -- targets that are all apart read no value in common
  pub targets_apart : (first second : List ℕ) (v : Tree) → all_apart apart first second ≡ true
      → IsReadAmong m reads first v → IsReadAmong m reads second v → ⊥
  targets_apart first second v all r s =
      let here = each_passes (is_apart_from apart second) r.number first all r.among in
      let yes : is_apart apart r.number s.number ≡ true =
      each_passes (is_apart apart r.number) s.number second here s.among in
      let no : is_apart apart r.number s.number ≡ false =
      among r.target s.target v r.reading s.reading r.reads_as s.reads_as r.number s.number
      r.is_number s.is_number in
      absurd (cc)

  -- ways that are apart read none
  pub ways_exclude : (w u : Ways) (v : Tree) → ways_apart apart w u ≡ true
      → IsReadIn m reads w v → IsReadIn m reads u v → ⊥
  ways_exclude w u v h r s =
      let free = and_first ((not w.any || has_no_way u) && (not u.any || has_no_way w))
      (all_apart apart w.targets.items u.targets.items) h in
      let all = and_second ((not w.any || has_no_way u) && (not u.any || has_no_way w))
      (all_apart apart w.targets.items u.targets.items) h in
      let one = and_first (not w.any || has_no_way u) (not u.any || has_no_way w) free in
      let other = and_second (not w.any || has_no_way u) (not u.any || has_no_way w) free in
      ⊎_elim
      (λ (any : w.any ≡ true). none_reads m reads u v (implied w.any (has_no_way u) one any) s)
      (λ (first : IsReadAmong m reads w.targets.items v).
      ⊎_elim
      (λ (any : u.any ≡ true). none_reads m reads w v (implied u.any (has_no_way w) other any) r)
      (λ (second : IsReadAmong m reads u.targets.items v).
      targets_apart w.targets.items u.targets.items v all first second) s) r
