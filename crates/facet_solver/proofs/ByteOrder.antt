-- Keys in order: putting one in, and that a list in order is told by its members.
use Rattle.std.proofs.Common.{◌≡◌, Bool, true, false, cond, ◌||◌, T, List, [], ◌∷◌, Option, Some, None, Bor, map, refl, sym, ◌∙◌, ap, subst}
use Rattle.std.specs.declared.cmp.Ordering.{Ordering}
use Rattle.std.specs.declared.cmp.Ordering.TheVariants.{Less, Equal, Greater}
use Rattle.std.specs.BTreeSet.{insert_key}
use Rattle.std.specs.Cmp.{IsTotalOrder}
use Rattle.std.specs.Cmp.Lexicographic.{slice_cmp}
use Rattle.std.specs.FinMap as finite
use Rattle.std.specs.FinMap.{find as find_at}
use Rattle.std.specs.FinSet as set
use Rattle.std.specs.List.{AllByRecursion, list_any}
use Rattle.std.specs.List.Sorted.{IsStrictlySortedBy}
use Rattle.std.specs.Ordering.{eq_by_cmp, is_eq, match_ordering, nat_cmp, ordering_reverse}
use Rattle.std.proofs.lemmas.Cmp.{eq_by_cmp_equiv, nat_list_cmp_total}
use Rattle.std.proofs.Math.Bool.{or_self_left}
use Rattle.facet_solver_shape.proofs.Finite.{or_swap}
use Rattle.facet_solver_shape.specs.Names.{Name, name_ref_cmp, names_of}
use Rattle.facet_solver_shape.specs.Resolved.{names_view}
use Rattle.facet_solver_shape.proofs.Fields.{rising_seen, rising_test}
use Rattle.facet_solver_shape.proofs.Keys.{name_cmp_same}
use Rattle.facet_solver.specs.solver.Failure.{in_byte_order}

module _ {K : Type 0} {R : K → K → Ordering} (o : IsTotalOrder R) where
  -- the members after one more was put in
  pub member-insert_key : (xs : List K) (k q : K) → list_any (eq_by_cmp R q) (insert_key R xs k) ≡ (eq_by_cmp R q k || list_any (eq_by_cmp R q) xs)
  member-insert_key [] k q = refl
  member-insert_key (x ∷ xs) k q = go (R k x) refl (member-insert_key xs k q)
    where
      go : (r : Ordering) → R k x ≡ r → list_any (eq_by_cmp R q) (insert_key R xs k) ≡ (eq_by_cmp R q k || list_any (eq_by_cmp R q) xs)
          → list_any (eq_by_cmp R q) (match_ordering r (k ∷ x ∷ xs) (x ∷ xs) (x ∷ insert_key R xs k)) ≡ (eq_by_cmp R q k || (eq_by_cmp R q x || list_any (eq_by_cmp R q) xs))
      go Less is later = refl
      go Equal is later =
          let laws = eq_by_cmp_equiv o in
          let alike : eq_by_cmp R q k ≡ eq_by_cmp R q x = laws.symm q k ∙ laws.congr k x q (ap is_eq is) ∙ laws.symm x q in
          sym (or_self_left (eq_by_cmp R q x) _) ∙ ap (λ b. b || (eq_by_cmp R q x || list_any (eq_by_cmp R q) xs)) (sym alike)
      go Greater is later =
          ap (λ b. eq_by_cmp R q x || b) later ∙ or_swap (eq_by_cmp R q x) (eq_by_cmp R q k) (list_any (eq_by_cmp R q) xs)

  below_insert : (x : K) (xs : List K) (k : K) → R x k ≡ Less → AllByRecursion (λ y. R x y ≡ Less) xs → AllByRecursion (λ y. R x y ≡ Less) (insert_key R xs k)
  below_insert x [] k low below = (low, tt)
  below_insert x (y ∷ ys) k low below = go (R k y) (below_insert x ys k low below.1)
    where
      go : (r : Ordering) → AllByRecursion (λ z. R x z ≡ Less) (insert_key R ys k) → AllByRecursion (λ z. R x z ≡ Less) (match_ordering r (k ∷ y ∷ ys) (y ∷ ys) (y ∷ insert_key R ys k))
      go Less later = (low, below)
      go Equal later = below
      go Greater later = (below.0, later)

  below_later : (k x : K) (xs : List K) → R k x ≡ Less → AllByRecursion (λ y. R x y ≡ Less) xs → AllByRecursion (λ y. R k y ≡ Less) xs
  below_later k x [] low below = tt
  below_later k x (y ∷ ys) low below = (o.trans k x y low below.0, below_later k x ys low below.1)

  -- it stays in order
  pub sorted-insert_key : (xs : List K) (k : K) → IsStrictlySortedBy R xs → IsStrictlySortedBy R (insert_key R xs k)
  unfolding IsStrictlySortedBy
  sorted-insert_key [] k sorted = (tt, tt)
  sorted-insert_key (x ∷ xs) k sorted = go (R k x) refl (sorted-insert_key xs k sorted.1)
    where
      go : (r : Ordering) → R k x ≡ r → IsStrictlySortedBy R (insert_key R xs k) → IsStrictlySortedBy R (match_ordering r (k ∷ x ∷ xs) (x ∷ xs) (x ∷ insert_key R xs k))
      go Less is later = ((is, below_later k x xs is sorted.0), sorted)
      go Equal is later = sorted
      go Greater is later = (below_insert x xs k (o.antisymm x k ∙ ap ordering_reverse is) sorted.0, later)

-- a mark, or none
abbrev mark : Bool → Option (Unit {0})
mark b = cond b (Some tt) None

mark_once : (a b : Bool) → cond a (Some tt) (mark b) ≡ mark (a || b)
mark_once true b = refl
mark_once false b = refl

-- keys as entries with nothing at them
abbrev marked : {K : Type 0} → List K → List (K × Unit {0})
marked ks = map (λ k. (k, tt)) ks

keys_marked : {K : Type 0} (ks : List K) → map (λ (e : K × Unit {0}). e.0) (marked ks) ≡ ks
keys_marked [] = refl
keys_marked (k ∷ ks) = ap (λ js. k ∷ js) (keys_marked ks)

module _ {K : Type 0} {R : K → K → Ordering} (o : IsTotalOrder R) (same : finite.IsAntisymmetric R) where
  found_marked : (ks : List K) (q : K) → find_at R q (marked ks) ≡ mark (list_any (eq_by_cmp R q) ks)
  found_marked [] q = refl
  found_marked (k ∷ ks) q = ap (cond (eq_by_cmp R q k) (Some tt)) (found_marked ks q) ∙ mark_once (eq_by_cmp R q k) (list_any (eq_by_cmp R q) ks)

  marked_sorted : (ks : List K) → IsStrictlySortedBy R ks → T (finite.is_sorted R (marked ks))
  marked_sorted ks sorted = rising_test R (marked ks) (subst (IsStrictlySortedBy R) (sym (keys_marked ks)) sorted)

  -- two lists in order with the same members are one
  pub same_sorted : (xs ys : List K) → IsStrictlySortedBy R xs → IsStrictlySortedBy R ys → ((q : K) → list_any (eq_by_cmp R q) xs ≡ list_any (eq_by_cmp R q) ys) → xs ≡ ys
  same_sorted xs ys sorted_xs sorted_ys alike =
      let left = marked_sorted xs sorted_xs in
      let right = marked_sorted ys sorted_ys in
      let maps : finite.from_sorted {R = R} (marked xs) ≡ finite.from_sorted (marked ys) = finite.same_map o same _ _ (λ q.
      finite.get-from_sorted R (marked xs) q left
      ∙ found_marked xs q
      ∙ ap mark (alike q)
      ∙ sym (finite.get-from_sorted R (marked ys) q right ∙ found_marked ys q)) in
      sym (keys_marked xs)
      ∙ ap (map (λ (e : K × Unit {0}). e.0)) (sym (finite.entries-from_sorted R (marked xs) left) ∙ ap finite.entries maps ∙ finite.entries-from_sorted R (marked ys) right)
      ∙ keys_marked ys

-- ---- names in byte order
pub sorted-in_byte_order : (names : List Name) → IsStrictlySortedBy (slice_cmp nat_cmp) (in_byte_order names)
unfolding IsStrictlySortedBy
sorted-in_byte_order [] = tt
sorted-in_byte_order (name ∷ names) = sorted-insert_key nat_list_cmp_total (in_byte_order names) name (sorted-in_byte_order names)

pub member-in_byte_order : (names : List Name) (q : Name) → list_any (eq_by_cmp (slice_cmp nat_cmp) q) (in_byte_order names) ≡ list_any (eq_by_cmp (slice_cmp nat_cmp) q) names
member-in_byte_order [] q = refl
member-in_byte_order (name ∷ names) q =
    member-insert_key nat_list_cmp_total (in_byte_order names) name q
    ∙ ap (λ b. eq_by_cmp (slice_cmp nat_cmp) q name || b) (member-in_byte_order names q)

-- names behind references that rise are some names in byte order, where they have the same members
names_sorted : (keys : List (Bor Name)) (names : List Name) → IsStrictlySortedBy name_ref_cmp keys
    → ((q : Name) → set.contains (names_view keys) q ≡ list_any (eq_by_cmp (slice_cmp nat_cmp) q) names) → names_of keys ≡ in_byte_order names
names_sorted keys names sorted members =
    same_sorted nat_list_cmp_total name_cmp_same (names_of keys) (in_byte_order names)
    (rising_seen name_ref_cmp (slice_cmp nat_cmp) (λ n. n.now) (λ x y. refl) keys sorted)
    (sorted-in_byte_order names)
    (λ q. sym (set.contains-from_list nat_list_cmp_total (names_of keys) q) ∙ members q ∙ sym (member-in_byte_order names q))

-- those of a list
pub list_in_order : (keys : List (Bor Name)) (names : List Name) → IsStrictlySortedBy name_ref_cmp keys → names_view keys ≡ set.from_list names → names_of keys ≡ in_byte_order names
list_in_order keys names sorted view =
    names_sorted keys names sorted (λ q. ap (λ s. set.contains s q) view ∙ set.contains-from_list nat_list_cmp_total names q)

-- a set is that of its members in byte order
pub items_in_order : (s : set.FinSet (slice_cmp nat_cmp)) → set.from_list (in_byte_order (set.items s)) ≡ s
items_in_order s =
    set.same_set nat_list_cmp_total name_cmp_same _ s
    (λ q. set.contains-from_list nat_list_cmp_total (in_byte_order (set.items s)) q ∙ member-in_byte_order (set.items s) q ∙ sym (set.contains-items s q))
