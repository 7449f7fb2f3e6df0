-- Names with the shapes behind each: in rising order, and each name once.
use Rattle.std.proofs.Common.{◌≡◌, inl, inr, ℕ, zero, suc, ◌<◌, ◌+◌, List, [], ◌∷◌, ◌++◌, Bool, true, false, refl, sym, ap, ◌∙◌, subst, map, cond, arith, nat_eq, get_or, length, Bor, IsPermutation, Ordering, Less, Equal, Greater, is_lt, is_eq, bytes_eq}
use Rattle.std.specs.Cmp.{IsTotalOrder, on_total}
use Rattle.std.specs.Cmp.Lexicographic.{nat_list_cmp_total, slice_cmp}
use Rattle.std.specs.FinSet as set
use Rattle.std.specs.List.{AllByRecursion, dedup, dedup_from}
use Rattle.std.specs.List.Sorted.{IsSortedByKey, IsStrictlySortedBy}
use Rattle.std.specs.Ordering.{nat_cmp, ordering_reverse}
use Rattle.std.proofs.Math.ListN.{get_or-map}
use Rattle.std.proofs.lemmas.Bool.{eqb-true}
use Rattle.std.proofs.lemmas.List.{length-map, map-append}
use Rattle.std.proofs.lemmas.List.Sorted.{All-permutation, IsPermutation-sym}
use Rattle.std.proofs.lemmas.List.Elements.{All-from_recursion, recursion_from_All}
use Rattle.std.proofs.lemmas.List.Filters.{All-dedup}
use Rattle.std.proofs.lemmas.Map.Keys.{sorted_from_all_adjacent}
use Rattle.std.proofs.lemmas.Map.Text.{is_eq-slice_cmp}
use Rattle.facet_solver_shape.specs.Names.{Name, name_ref_cmp}
use Rattle.facet_solver.specs.build.Nested.{KeyPath, KeyPaths, Under, named, paths_of_each}
use Rattle.facet_solver.specs.build.NestedNames.{AreRising, Names, paths_of_names, shapes_behind}
use Rattle.facet_solver.specs.declared.build.nested.shapes_behind.ShapesBehind.{ShapesBehind}
use Rattle.facet_solver.proofs.NestedFields.{each-last, each_push}
use Rattle.facet_solver.proofs.NestedSets.{Has, Has-left, Has-none, Has-right, Has-union, named-union, none-union, same_paths, union_assoc, union_within}

-- a name with the shapes behind it
abbrev Item : Type 0
Item = Bor Name × ShapesBehind

-- ---- the same items in another order
-- what holds of each holds of each in another order
pub each_permuted : {X : Type 0} (P : X → Type 0) (xs ys : List X) → IsPermutation xs ys → AllByRecursion P xs → AllByRecursion P ys
each_permuted P xs ys permuted h = recursion_from_All P ys (All-permutation P xs ys permuted (All-from_recursion P xs h))

module _ {X : Type 0} (paths : X → KeyPaths) where
  -- items stand for paths of a set where each of them does
  within_all : (all : KeyPaths) (xs : List X) → AllByRecursion (λ x. (q : KeyPath) → Has (paths x) q → Has all q) xs → (q : KeyPath) → Has (paths_of_each paths xs) q → Has all q
  within_all all [] each q h = Has-none q h
  within_all all (x ∷ xs) each q h = elim (Has-union (paths x) (paths_of_each paths xs) q h) [ inl here ↦ each.0 q here | inr later ↦ within_all all xs each.1 q later ]

  -- and each of them stands for paths of theirs
  within_more : (all : KeyPaths) (xs : List X) → ((q : KeyPath) → Has (paths_of_each paths xs) q → Has all q) → AllByRecursion (λ x. (q : KeyPath) → Has (paths x) q → Has all q) xs
  within_more all [] within = tt
  within_more all (x ∷ xs) within = (
    λ q h. within q (Has-left (paths x) (paths_of_each paths xs) q h),
    within_more all xs (λ q h. within q (Has-right (paths x) (paths_of_each paths xs) q h)),
  )

  within_permuted : (xs ys : List X) → IsPermutation xs ys → (q : KeyPath) → Has (paths_of_each paths ys) q → Has (paths_of_each paths xs) q
  within_permuted xs ys permuted =
      let all = paths_of_each paths xs in
      within_all all ys (each_permuted _ xs ys permuted (within_more all xs (λ q h. h)))

  -- items in another order stand for the same key paths
  pub paths-permutation : (xs ys : List X) → IsPermutation xs ys → paths_of_each paths ys ≡ paths_of_each paths xs
  paths-permutation xs ys permuted = same_paths _ _ (within_permuted xs ys permuted) (within_permuted ys xs (IsPermutation-sym xs ys permuted))

-- ---- names that rise
name_ref_total : IsTotalOrder name_ref_cmp
name_ref_total = on_total (λ (name : Bor Name). name.now) nat_list_cmp_total

-- names rise where each is before the next
pub rise-next : (names : Names) → ((k : ℕ) (d : Item) → k + 1 < length names → name_ref_cmp (get_or names k d).0 (get_or names (k + 1) d).0 ≡ Less) → AreRising names
unfolding IsStrictlySortedBy
rise-next [] next = tt
rise-next (e ∷ es) next =
    let first : Item → Bor Name = λ e. e.0 in
    let names = e ∷ es in
    sorted_from_all_adjacent name_ref_total (map first names) e.0
    (λ k lt.
    let long = length-map names first in
    ap (λ (x : Bor Name). name_ref_cmp x (get_or (map first names) (k + 1) e.0)) (get_or-map first names k e)
    ∙ ap (name_ref_cmp (get_or names k e).0) (get_or-map first names (k + 1) e)
    ∙ next k e (omega (arith, long, lt)))

rise_on : {K : Type 0} {R : K → K → Ordering} (total : IsTotalOrder R) (ks : List K) (a b : K) → IsStrictlySortedBy R (ks ++ a ∷ []) → R a b ≡ Less → IsStrictlySortedBy R ((ks ++ a ∷ []) ++ b ∷ [])
unfolding IsStrictlySortedBy
rise_on total [] a b h less = ((less, tt), (tt, tt))
rise_on {R} total (k ∷ ks) a b h less =
    let last = each-last (λ y. R k y ≡ Less) ks a h.0 in
    (each_push (λ y. R k y ≡ Less) (ks ++ a ∷ []) b h.0 (total.trans k a b last.0 less), rise_on total ks a b h.1 less)

-- no name and one name
pub no_names_rise : AreRising []
unfolding IsStrictlySortedBy
no_names_rise = tt

pub rise-first : (e : Item) → AreRising (e ∷ [])
unfolding IsStrictlySortedBy
rise-first e = (tt, tt)

-- one more name after the last
pub rise-push : (names : Names) (e f : Item) → AreRising (names ++ e ∷ []) → name_ref_cmp e.0 f.0 ≡ Less → AreRising ((names ++ e ∷ []) ++ f ∷ [])
rise-push names e f rise less =
    let first : Item → Bor Name = λ e. e.0 in
    subst (IsStrictlySortedBy name_ref_cmp) (ap (λ (ks : List (Bor Name)). ks ++ f.0 ∷ []) (sym (map-append first names (e ∷ []))) ∙ sym (map-append first (names ++ e ∷ []) (f ∷ [])))
    (rise_on name_ref_total (map first names) e.0 f.0 (subst (IsStrictlySortedBy name_ref_cmp) (map-append first names (e ∷ [])) rise) less)

-- the last may have other shapes
pub rise-last_other : (names : Names) (e f : Item) → e.0 ≡ f.0 → AreRising (names ++ e ∷ []) → AreRising (names ++ f ∷ [])
rise-last_other names e f same rise =
    let first : Item → Bor Name = λ e. e.0 in
    subst (IsStrictlySortedBy name_ref_cmp) (map-append first names (e ∷ []) ∙ ap (λ (k : Bor Name). map first names ++ k ∷ []) same ∙ sym (map-append first names (f ∷ []))) rise

-- ---- sorted names, of which some may be the same
abbrev pub AreSorted : Names → Type 0
AreSorted = IsSortedByKey (λ (e : Item). e.0) name_ref_cmp

-- another name that is next comes after
pub next_after : (e f : Item) (names : Names) → AreSorted (e ∷ f ∷ names) → bytes_eq f.0.now e.0.now ≡ false → name_ref_cmp e.0 f.0 ≡ Less
next_after e f names sorted other = go (slice_cmp nat_cmp f.0.now e.0.now) refl (name_ref_total.antisymm e.0 f.0) (sorted 0 e (omega arith) (omega arith))
  where
    go : (o : Ordering) → slice_cmp nat_cmp f.0.now e.0.now ≡ o → name_ref_cmp e.0 f.0 ≡ ordering_reverse o → is_lt o ≡ false → name_ref_cmp e.0 f.0 ≡ Less
    go Less is turned not_less = absurd (cc)
    go Equal is turned not_less = absurd (let tie : is_eq Equal ≡ false = ap is_eq (sym is) ∙ is_eq-slice_cmp f.0.now e.0.now ∙ other in cc)
    go Greater is turned not_less = turned

-- those after the first are sorted, and the first of them may have other shapes
pub sorted_rest : (e f g : Item) (names : Names) → g.0.now ≡ f.0.now → AreSorted (e ∷ f ∷ names) → AreSorted (g ∷ names)
sorted_rest e f g names same sorted zero d low within =
    ap (λ (name : Name). is_lt (slice_cmp nat_cmp (get_or (g ∷ names) 1 d).0.now name)) same ∙ sorted 1 d (omega arith) (omega (arith, within))
sorted_rest e f g names same sorted (suc k) d low within =
    let n : suc k + 1 ≡ suc (suc k) = omega arith in
    let m : suc (suc k) + 1 ≡ suc (suc (suc k)) = omega arith in
    let read : get_or (g ∷ names) (suc k + 1) d ≡ get_or (e ∷ f ∷ names) (suc (suc k) + 1) d = ap (λ (i : ℕ). get_or (g ∷ names) i d) n ∙ sym (ap (λ (i : ℕ). get_or (e ∷ f ∷ names) i d) m) in
    ap (λ (x : Item). is_lt (name_ref_cmp x.0 (get_or names k d).0)) read ∙ sorted (suc (suc k)) d (omega arith) (omega (arith, within))

-- ---- shapes in order, each once
module _ (under : Under) where
  -- the same shape once more stands for the same
  twice : (id k : ℕ) (ids : List ℕ) → id ≡ k → paths_of_each under (k ∷ ids) ≡ paths_of_each under (k ∷ id ∷ ids)
  twice id k ids same =
      ap (λ (ps : KeyPaths). set.union ps (paths_of_each under ids)) (sym (union_within (under k) (under id) (λ q h. subst (λ (i : ℕ). Has (under i) q) same h)))
      ∙ sym (union_assoc (under k) (under id) (paths_of_each under ids))

  paths-dedup_from : (k : ℕ) (ids : List ℕ) → paths_of_each under (dedup_from nat_eq k ids) ≡ paths_of_each under (k ∷ ids)
  paths-dedup_from k [] = refl
  paths-dedup_from k (id ∷ ids) = go (nat_eq id k) refl (paths-dedup_from k ids) (paths-dedup_from id ids)
    where
      go : (b : Bool) → nat_eq id k ≡ b → paths_of_each under (dedup_from nat_eq k ids) ≡ paths_of_each under (k ∷ ids) → paths_of_each under (dedup_from nat_eq id ids) ≡ paths_of_each under (id ∷ ids)
          → paths_of_each under (cond b (dedup_from nat_eq k ids) (k ∷ dedup_from nat_eq id ids)) ≡ paths_of_each under (k ∷ id ∷ ids)
      go true same before after = before ∙ twice id k ids (eqb-true id k same)
      go false other before after = ap (set.union (under k)) after

  pub paths-dedup : (ids : List ℕ) → paths_of_each under (dedup nat_eq ids) ≡ paths_of_each under ids
  paths-dedup [] = refl
  paths-dedup (id ∷ ids) = paths-dedup_from id ids

pub each-dedup : (P : ℕ → Type 0) (ids : List ℕ) → AllByRecursion P ids → AllByRecursion P (dedup nat_eq ids)
each-dedup P ids h = recursion_from_All P (dedup nat_eq ids) (All-dedup nat_eq P ids (All-from_recursion P ids h))

-- the shapes of both
pub paths-append : (under : Under) (ids more : List ℕ) → paths_of_each under (ids ++ more) ≡ set.union (paths_of_each under ids) (paths_of_each under more)
paths-append under [] more = sym (none-union (paths_of_each under more))
paths-append under (id ∷ ids) more = ap (set.union (under id)) (paths-append under ids more) ∙ union_assoc (under id) (paths_of_each under ids) (paths_of_each under more)

pub each-append : (P : ℕ → Type 0) (ids more : List ℕ) → AllByRecursion P ids → AllByRecursion P more → AllByRecursion P (ids ++ more)
each-append P [] more h k = k
each-append P (id ∷ ids) more h k = (h.0, each-append P ids more h.1 k)

-- ---- names that are the same are made one
-- what stands for the same stands for the same behind other items
paths_behind : {X : Type 0} (paths : X → KeyPaths) (front xs ys : List X) → paths_of_each paths xs ≡ paths_of_each paths ys → paths_of_each paths (front ++ xs) ≡ paths_of_each paths (front ++ ys)
paths_behind paths [] xs ys same = same
paths_behind paths (x ∷ front) xs ys same = ap (set.union (paths x)) (paths_behind paths front xs ys same)

-- a name may have other shapes that stand for the same
pub paths-other : (under : Under) (front names : Names) (e : Item) (other : ShapesBehind) → paths_of_each under (shapes_behind other) ≡ paths_of_each under (shapes_behind e.1)
    → paths_of_names under (front ++ (e.0, other) ∷ names) ≡ paths_of_names under (front ++ e ∷ names)
paths-other under front names e other same =
    paths_behind _ front ((e.0, other) ∷ names) (e ∷ names) (ap (λ (ps : KeyPaths). set.union (named e.0.now ps) (paths_of_names under names)) same)

pub paths-joined : (under : Under) (front names : Names) (e f : Item) (both : ShapesBehind) → f.0.now ≡ e.0.now → paths_of_each under (shapes_behind both) ≡ set.union (paths_of_each under (shapes_behind e.1)) (paths_of_each under (shapes_behind f.1))
    → paths_of_names under (front ++ (e.0, both) ∷ names) ≡ paths_of_names under (front ++ e ∷ f ∷ names)
paths-joined under front names e f both same more =
    let behind = paths_of_names under names in
    paths_behind _ front ((e.0, both) ∷ names) (e ∷ f ∷ names)
    (ap (λ (ps : KeyPaths). set.union (named e.0.now ps) behind) more
    ∙ ap (λ (ps : KeyPaths). set.union ps behind) (named-union e.0.now (paths_of_each under (shapes_behind e.1)) (paths_of_each under (shapes_behind f.1)))
    ∙ ap (λ (name : Name). set.union (set.union (named e.0.now (paths_of_each under (shapes_behind e.1))) (named name (paths_of_each under (shapes_behind f.1)))) behind) (sym same)
    ∙ sym (union_assoc (named e.0.now (paths_of_each under (shapes_behind e.1))) (named f.0.now (paths_of_each under (shapes_behind f.1))) behind))

-- what holds of each still holds where two were made one of which it holds
pub each-joined : {X : Type 0} (P : X → Type 0) (front xs : List X) (e f g : X) → (P e → P f → P g) → AllByRecursion P (front ++ e ∷ f ∷ xs) → AllByRecursion P (front ++ g ∷ xs)
each-joined P [] xs e f g one h = (one h.0 h.1.0, h.1.1)
each-joined P (x ∷ front) xs e f g one h = (h.0, each-joined P front xs e f g one h.1)

-- what holds of each still holds where one is another of which it holds
pub each-other : {X : Type 0} (P : X → Type 0) (front xs : List X) (e g : X) → (P e → P g) → AllByRecursion P (front ++ e ∷ xs) → AllByRecursion P (front ++ g ∷ xs)
each-other P [] xs e g one h = (one h.0, h.1)
each-other P (x ∷ front) xs e g one h = (h.0, each-other P front xs e g one h.1)
