-- Lemmas of lists in which a name repeats, and of lists in which all differ.
use Rattle.std.proofs.Common.{◌≡◌, ◌≢◌, ℕ, ◌+◌, ◌-◌, ◌<◌, ◌≤◌, Bool, true, false, List, length, Some, slice_get, refl, sym, ◌∙◌, inl, inr, ◌⊎◌, ◌↔◌, map, take, drop, get_or, ap, arith, subst, [], swap, IsPermutation, IsSorted, Bor, Ordering, Less, Equal, Greater, nat_cmp, min, is_eq, is_lt, bytes_eq, Result, Ok, Err}
use Rattle.std.specs.List.{list_any, slice_range}
use Rattle.std.specs.List.Sorted.{IsBinarySearchResult, IsSearchInRange}
use Rattle.std.specs.Option.{option_map}
use Rattle.std.specs.Result.{is_ok}
use Rattle.std.specs.Ordering.{is_le, ordering_reverse, flip_args}
use Rattle.std.specs.Cmp.{IsTotalOrder, tied_itself}
use Rattle.std.specs.Cmp.Lexicographic.{slice_cmp, nat_list_cmp_total}
use Rattle.std.specs.BTreeMap.Comparable.{le_lt_trans}
use Rattle.std.proofs.Math.Nat.{min-le_right, le-min}
use Rattle.std.proofs.lemmas.Bool.{false≢true, cases_lt, cases_eq}
use Rattle.std.proofs.lemmas.Cmp.{on_total}
use Rattle.std.proofs.lemmas.List.{length-take, length-drop, length-map, get_or-take, get_or-drop, get_or-map, take-map, drop-map, take_all}
use Rattle.std.proofs.lemmas.List.Edits.{Swapped, swapped_from_swap, length-swap}
use Rattle.std.proofs.lemmas.List.Folds.{Any-from_list_any, list_any_at}
use Rattle.std.proofs.lemmas.List.Sorted.{IsPermutation-keeps, IsPermutation-map, IsPermutation-sym, searchable_from_sorted}
use Rattle.std.proofs.lemmas.Map.Keys.{sorted_from_all_adjacent, Less-from_sorted}
use Rattle.std.proofs.lemmas.Map.Text.{is_eq-slice_cmp}
use Rattle.std.proofs.lemmas.Option.{slice_get-map, slice_get-get_or, slice_get_within, slice_get_read, get_or_from_slice_get}
use Rattle.std.proofs.lemmas.Slice.Eq.{bytes_eq-Decides}
use Rattle.facet_solver_shape.specs.Names.{Name, names_of, name_ref_cmp}
use Rattle.facet_solver_shape.specs.Catalogues.{RepeatsName, SharesName}
use Rattle.facet_solver_shape.proofs.Finite.{same_value, cases_bool}
use Rattle.facet_solver_shape.proofs.Lists.{list_any-map}

-- the order of names by their bytes, and the same backwards
abbrev pub name_cmp : Name → Name → Ordering
name_cmp = slice_cmp nat_cmp

abbrev pub name_cmp_back : Name → Name → Ordering
name_cmp_back = flip_args name_cmp

-- the first n names differ
abbrev pub ApartBelow : List Name → ℕ → Type 0
ApartBelow names n = (i j : ℕ) (name : Name) → i < j → j < n → slice_get names i ≡ Some name → ¬ (slice_get names j ≡ Some name)

-- names below n of a list are at most this one, in an order
abbrev pub AtMostBelow : (Name → Name → Ordering) → List Name → ℕ → Name → Type 0
AtMostBelow R names n last = (k : ℕ) (name : Name) → k < n → slice_get names k ≡ Some name → is_le (R name last) ≡ true

is_less : (r : Ordering) → is_lt r ≡ true → r ≡ Less
is_less Less less = refl
is_less Equal less = cc
is_less Greater less = cc

turned : (r : Ordering) → is_lt r ≡ false → is_le (ordering_reverse r) ≡ true
turned Less other = cc
turned Equal other = refl
turned Greater other = refl

-- the next name of a list, beside the last in some order of those before it
module _ {R : Name → Name → Ordering} (total : IsTotalOrder R) (names : List Name) (n : ℕ) (last name : Name) (at : slice_get names n ≡ Some name) (below : AtMostBelow R names n last) where
  -- the next one, or one before it
  next_or_before : (k : ℕ) (q : Name) → k < n + 1 → slice_get names k ≡ Some q → (q ≡ name) ⊎ (k < n)
  next_or_before k q low at_k = elim (cases_lt k n) [
    | inl earlier ↦ inr earlier
    | inr later ↦
        let here : k ≡ n = omega (arith, low, later) in
        let both : Some q ≡ Some name = sym at_k ∙ ap (slice_get names) here ∙ at in
        inl (same_value q name both)
  ]

  module _ (past : is_lt (R last name) ≡ true) where
    before : (k : ℕ) (q : Name) → k < n → slice_get names k ≡ Some q → R q name ≡ Less
    before k q less at_k = le_lt_trans total q last name (below k q less at_k) (is_less _ past)

    -- where it is past that one, it is the last
    pub at_most_itself : AtMostBelow R names (n + 1) name
    at_most_itself k q low at_k = elim (next_or_before k q low at_k) [
      | inl same ↦ rw same (ap is_le (tied_itself total name))
      | inr earlier ↦ ap is_le (before k q earlier at_k)
    ]

    -- and another than all before it
    pub apart_past : ApartBelow names n → ApartBelow names (n + 1)
    apart_past apart i j q less low at_i at_j = elim (next_or_before j q low at_j) [
      | inl same ↦
          let twice : Less ≡ Equal = sym (before i q (omega (arith, less, low)) at_i) ∙ ap (λ x. R x name) same ∙ tied_itself total name in
          cc
      | inr earlier ↦ apart i j q less earlier at_i at_j
    ]

  -- else that one stays
  pub at_most_still : is_lt (R last name) ≡ false → AtMostBelow R names (n + 1) last
  at_most_still not_past k q low at_k = elim (next_or_before k q low at_k) [
    | inl same ↦ rw same (ap is_le (total.antisymm name last) ∙ turned _ not_past)
    | inr earlier ↦ below k q earlier at_k
  ]

-- what is past the last of an order is past the first too
pub past_both : {R : Name → Name → Ordering} (total : IsTotalOrder R) (first last name : Name) → is_le (R first last) ≡ true → is_lt (R last name) ≡ true → R first name ≡ Less
past_both total first last name ordered past = le_lt_trans total first last name ordered (is_less _ past)

pub not_back : {R : Name → Name → Ordering} (total : IsTotalOrder R) (x y : Name) → R x y ≡ Less → is_lt (R y x) ≡ false
not_back total x y less = ap is_lt (total.antisymm y x ∙ ap ordering_reverse less)

pub apart_fewer : (names : List Name) (m n : ℕ) → m ≤ n → ApartBelow names n → ApartBelow names m
apart_fewer names m n fewer apart i j name less low = apart i j name less (omega (arith, low, fewer))

pub not_repeated : (names : List Name) (n : ℕ) → length names ≤ n → ApartBelow names n → ¬ RepeatsName names
not_repeated names n all apart twice =
    let inside = slice_get_within names twice.second twice.name twice.at_second in
    apart twice.first twice.second twice.name twice.apart (omega (arith, inside, all)) twice.at_first twice.at_second

-- ---- a stretch of a list, beside what is before it

abbrev pub RepeatsInStretch : List Name → List Name → Type 0
RepeatsInStretch before stretch = RepeatsName stretch ⊎ SharesName before stretch

module _ (names : List Name) (index end : ℕ) (upto : index ≤ end) (within : end ≤ length names) where
  long : length (slice_range names index end) ≡ end - index
  long =
      let dropped = length-drop index names in
      length-take (end - index) (drop index names) ∙ omega (arith, dropped, upto, within)

  read : (k : ℕ) (d : Name) → index + k < end → get_or (slice_range names index end) k d ≡ get_or names (index + k) d
  read k d less = get_or-take (end - index) (drop index names) k d (omega arith) ∙ get_or-drop index names k d

  in_stretch : (k : ℕ) (name : Name) → index ≤ k → k < end → slice_get names k ≡ Some name → slice_get (slice_range names index end) (k - index) ≡ Some name
  in_stretch k name from less at =
      let there : index + (k - index) ≡ k = omega (arith, from) in
      let same : name ≡ get_or (slice_range names index end) (k - index) name = sym (read (k - index) name (omega arith) ∙ ap (λ n. get_or names n name) there ∙ get_or_from_slice_get names k name name at) in
      slice_get_read _ _ (k - index) name (sym long) (omega arith) same

  from_stretch : (k : ℕ) (name : Name) → slice_get (slice_range names index end) k ≡ Some name → slice_get names (index + k) ≡ Some name
  from_stretch k name at =
      let inside = slice_get_within _ k name at in
      let less : index + k < end = omega (arith, inside, long, upto) in
      let same : name ≡ get_or names (index + k) name = sym (get_or_from_slice_get _ k name name at) ∙ read k name less in
      slice_get_read names (length names) (index + k) name refl (omega arith) same

  in_front : (k : ℕ) (name : Name) → k < index → slice_get names k ≡ Some name → slice_get (take index names) k ≡ Some name
  in_front k name less at =
      let taken = length-take index names in
      slice_get_read _ (length (take index names)) k name refl (omega (arith, taken, upto, within)) (sym (get_or-take index names k name less ∙ get_or_from_slice_get names k name name at))

  from_front : (k : ℕ) (name : Name) → slice_get (take index names) k ≡ Some name → (k < index) × (slice_get names k ≡ Some name)
  from_front k name at =
      let taken = length-take index names in
      let inside = slice_get_within _ k name at in
      let less : k < index = omega (arith, taken, inside) in
      (less, slice_get_read names (length names) k name refl (omega arith) (sym (get_or_from_slice_get _ k name name at) ∙ get_or-take index names k name less))

  -- names that differ before it differ to its end where it repeats none
  pub apart_to_end : ApartBelow names index → ¬ RepeatsInStretch (take index names) (slice_range names index end) → ApartBelow names end
  apart_to_end apart fresh i j name less low at_i at_j = elim (cases_lt j index) [
    | inl earlier ↦ apart i j name less earlier at_i at_j
    | inr later ↦ elim (cases_lt i index) [
      | inl front ↦ fresh (inr (record {
        name = name;
        first = i;
        second = j - index;
        at_first = in_front i name front at_i;
        at_second = in_stretch j name later low at_j;
      }))
      | inr inside ↦ fresh (inl (record {
        name = name;
        first = i - index;
        second = j - index;
        apart = omega (arith, less, inside);
        at_first = in_stretch i name inside (omega (arith, less, low)) at_i;
        at_second = in_stretch j name later low at_j;
      }))
    ]
  ]

  -- what repeats in it repeats in the list
  pub repeated_in_stretch : RepeatsInStretch (take index names) (slice_range names index end) → RepeatsName names
  repeated_in_stretch (inl twice) = record {
    name = twice.name;
    first = index + twice.first;
    second = index + twice.second;
    apart = omega (arith, twice.apart);
    at_first = from_stretch twice.first twice.name twice.at_first;
    at_second = from_stretch twice.second twice.name twice.at_second;
  }
  repeated_in_stretch (inr shared) =
      let front = from_front shared.first shared.name shared.at_first in
      record {
        name = shared.name;
        first = shared.first;
        second = index + shared.second;
        apart = omega (arith, front.0);
        at_first = front.1;
        at_second = from_stretch shared.second shared.name shared.at_second;
      }

-- ---- names in another order

-- where an exchange of a and b takes what stands at k
abbrev Moved : ℕ → ℕ → ℕ → ℕ → Type 0
Moved a b k m = ((k ≡ a) × (m ≡ b)) ⊎ (((k ≡ b) × (m ≡ a)) ⊎ ((k ≢ a) × (k ≢ b) × (m ≡ k)))

module _ (names : List Name) (a b : ℕ) (p : a < length names) (q : b < length names) where
  place : (k : ℕ) (name : Name) → slice_get names k ≡ Some name → (m : ℕ) × Moved a b k m × (slice_get (swap names a b) m ≡ Some name)
  place k name at = go (cases_eq k a) (cases_eq k b)
    where
      s : Swapped (λ i. get_or names i name) (λ i. get_or (swap names a b) i name) a b
      s = swapped_from_swap names (swap names a b) a b name p q refl

      inside : k < length names
      inside = slice_get_within names k name at

      there : (m : ℕ) → m < length names → get_or (swap names a b) m name ≡ get_or names k name → slice_get (swap names a b) m ≡ Some name
      there m less e = slice_get_read _ (length names) m name (sym (length-swap names a b)) less (sym (e ∙ get_or_from_slice_get names k name name at))

      go : (k ≡ a) ⊎ (k ≢ a) → (k ≡ b) ⊎ (k ≢ b) → (m : ℕ) × Moved a b k m × (slice_get (swap names a b) m ≡ Some name)
      go (inl e) y = (b, inl (e, refl), there b q (s.1 ∙ ap (λ n. get_or names n name) (sym e)))
      go (inr n) (inl e) = (a, inr (inl (e, refl)), there a p (s.0 ∙ ap (λ n. get_or names n name) (sym e)))
      go (inr n) (inr o) = (k, inr (inr (n, o, refl)), there k inside (s.2 k n o))

  repeats_swapped : RepeatsName names → RepeatsName (swap names a b)
  repeats_swapped twice =
      let x = place twice.first twice.name twice.at_first in
      let y = place twice.second twice.name twice.at_second in
      elim (cases_lt x.0 y.0) [
        | inl less ↦ record { name = twice.name; first = x.0; second = y.0; apart = less; at_first = x.2; at_second = y.2 }
        | inr other ↦ record { name = twice.name; first = y.0; second = x.0; apart = omega (arith, other, x.1, y.1, twice.apart); at_first = y.2; at_second = x.2 }
      ]

pub RepeatsName-permutation : (names others : List Name) → IsPermutation names others → RepeatsName names → RepeatsName others
RepeatsName-permutation names others moved twice = IsPermutation-keeps names RepeatsName twice repeats_swapped others moved

pub SharesName-permutation : (before names others : List Name) → IsPermutation names others → SharesName before names → SharesName before others
SharesName-permutation before names others moved shared = IsPermutation-keeps names (SharesName before) shared swapped others moved
  where
    swapped : (l : List Name) (a b : ℕ) → a < length l → b < length l → SharesName before l → SharesName before (swap l a b)
    swapped l a b p q one =
        let y = place l a b p q one.second one.name one.at_second in
        record { name = one.name; first = one.first; second = y.0; at_first = one.at_first; at_second = y.2 }

-- what sorted names say of the stretch that they are from
pub told_by_sorted : (before names sorted : List Name) → IsPermutation names sorted → RepeatsInStretch before names ↔ RepeatsInStretch before sorted
told_by_sorted before names sorted moved = (
  λ one. elim one [ inl twice ↦ inl (RepeatsName-permutation names sorted moved twice) | inr shared ↦ inr (SharesName-permutation before names sorted moved shared) ],
  λ one. let back = IsPermutation-sym names sorted moved in elim one [ inl twice ↦ inl (RepeatsName-permutation sorted names back twice) | inr shared ↦ inr (SharesName-permutation before sorted names back shared) ],
)

-- ---- names that are searched

bytes_same : (x y : Name) → name_cmp x y ≡ Equal → bytes_eq x y ≡ true
bytes_same x y tie = sym (is_eq-slice_cmp x y) ∙ ap is_eq tie

-- whether a name of the one list stands in the other
abbrev pub is_shared : List Name → List Name → Bool
is_shared names others = list_any (λ x. list_any (λ y. bytes_eq y x) others) names

pub shared_told : (names others : List Name) → is_shared names others ≡ true ↔ SharesName names others
shared_told names others = (there, back)
  where
    there : is_shared names others ≡ true → SharesName names others
    there given =
        let one = Any-from_list_any _ names given in
        let two = Any-from_list_any _ others one.4 in
        record {
          name = one.1;
          first = one.0;
          second = two.0;
          at_first = slice_get_read names (length names) one.0 one.1 refl one.2 (sym one.3);
          at_second = slice_get_read others (length others) two.0 one.1 refl two.2 (same_read one.1 two.0 two.1 two.3 two.4);
        }
      where
        same_read : (x : Name) (k : ℕ) (y : Name) → get_or others k y ≡ y → bytes_eq y x ≡ true → x ≡ get_or others k x
        same_read x k y at e = let same = (bytes_eq-Decides y x).0 e in let P : Name → Type 0 = λ z. z ≡ get_or others k z in subst P same (sym at)

    back : SharesName names others → is_shared names others ≡ true
    back one =
        let name = one.name in
        let read_first = get_or_from_slice_get names one.first name name one.at_first in
        let read_second = get_or_from_slice_get others one.second name name one.at_second in
        let inner : list_any (λ y. bytes_eq y name) others ≡ true = list_any_at _ others one.second name (slice_get_within others one.second name one.at_second) (ap (λ z. bytes_eq z name) read_second ∙ (bytes_eq-Decides name name).1 refl) in
        list_any_at _ names one.first name (slice_get_within names one.first name one.at_first) (ap (λ z. list_any (λ y. bytes_eq y z) others) read_first ∙ inner)

-- ---- sorted names

blank : Bor Name
blank = record { ref_ptr = (0, 0); now = [] }

-- what halving answers is whether a name is one of the sorted names
pub found_by_halving : (ns : List (Bor Name)) (x : Name) (r : Result ℕ ℕ) → IsSorted name_ref_cmp ns → IsSearchInRange r (length ns) → IsBinarySearchResult (λ y. name_cmp y.now x) ns r → is_ok r ≡ list_any (λ y. bytes_eq y x) (names_of ns)
found_by_halving ns x (Ok i) sorted inside found =
    sym (list_any-map (λ y. bytes_eq y x) (λ n. n.now) ns ∙ list_any_at (λ n. bytes_eq n.now x) ns i blank inside (bytes_same (get_or ns i blank).now x (found blank)))
found_by_halving ns x (Err i) sorted inside parted =
    sym (list_any-map (λ y. bytes_eq y x) (λ n. n.now) ns ∙ elim (cases_bool (list_any (λ n. bytes_eq n.now x) ns)) [ inl some ↦ absurd (none some) | inr other ↦ other ])
  where
    none : list_any (λ n. bytes_eq n.now x) ns ≡ true → ⊥
    none some =
        let one = Any-from_list_any (λ n. bytes_eq n.now x) ns some in
        let parts = parted (searchable_from_sorted nat_list_cmp_total (λ n. n.now) ns x sorted) in
        let tie : is_eq (name_cmp (get_or ns one.0 one.1).now x) ≡ true = ap (λ n. is_eq (name_cmp n.now x)) one.3 ∙ is_eq-slice_cmp one.1.now x ∙ one.4 in
        elim (cases_lt one.0 i) [
          | inl low ↦ false≢true (sym (ap is_eq (parts.0 one.0 one.1 (omega arith) low)) ∙ tie)
          | inr high ↦ false≢true (sym (ap is_eq (parts.1 one.0 one.1 high one.2)) ∙ tie)
        ]

-- the names at i and j differ
abbrev pub DifferAt : List (Bor Name) → ℕ → ℕ → Type 0
DifferAt ns i j = (d : Bor Name) → bytes_eq (get_or ns i d).now (get_or ns j d).now ≡ false

only_less : (o p : Ordering) → o ≡ ordering_reverse p → is_lt p ≡ false → is_eq o ≡ false → o ≡ Less
only_less o Less e p q = cc
only_less o Equal e p q = let tie = ap is_eq (sym e) ∙ q in cc
only_less o Greater e p q = e

-- sorted names differ where neighbours do
pub not_repeated_sorted : (ns : List (Bor Name)) → IsSorted name_ref_cmp ns → ((k : ℕ) → k + 1 < length ns → DifferAt ns k (k + 1)) → ¬ RepeatsName (names_of ns)
not_repeated_sorted ns sorted neighbours twice =
    let total = on_total (λ (n : Bor Name). n.now) nat_list_cmp_total in
    let rises : (k : ℕ) → k + 1 < length ns → name_ref_cmp (get_or ns k blank) (get_or ns (k + 1) blank) ≡ Less =
    λ k h. let x = get_or ns k blank in let y = get_or ns (k + 1) blank in
    only_less (name_ref_cmp x y) (name_ref_cmp y x) (total.antisymm x y) (sorted k blank (omega arith) h) (is_eq-slice_cmp x.now y.now ∙ neighbours k h blank) in
    let last : twice.second < length ns = omega (arith, slice_get_within (names_of ns) twice.second twice.name twice.at_second, length-map ns (λ (n : Bor Name). n.now)) in
    let below = Less-from_sorted name_ref_cmp ns twice.first twice.second blank (sorted_from_all_adjacent total ns blank rises) twice.apart last in
    let one = read_name twice.first (omega (arith, twice.apart, last)) twice.at_first in
    let two = read_name twice.second last twice.at_second in
    let tie : Less ≡ Equal = sym below ∙ ap (λ x. name_cmp x (get_or ns twice.second blank).now) one ∙ ap (λ y. name_cmp twice.name y) two ∙ tied_itself nat_list_cmp_total twice.name in
    cc
  where
    read_name : (k : ℕ) → k < length ns → slice_get (names_of ns) k ≡ Some twice.name → (get_or ns k blank).now ≡ twice.name
    read_name k inside at = sym (get_or-map (λ n. n.now) ns k blank twice.name inside) ∙ get_or_from_slice_get (names_of ns) k twice.name twice.name at

-- neighbours that are the same repeat a name
pub repeated_neighbours : (ns : List (Bor Name)) (later : ℕ) (d e : Bor Name) → 0 < later → later < length ns → bytes_eq (get_or ns (later - 1) d).now (get_or ns later e).now ≡ true → RepeatsName (names_of ns)
repeated_neighbours ns later d e some inside equal =
    let earlier : later - 1 < length ns = omega (arith, inside) in
    let same = (bytes_eq-Decides (get_or ns (later - 1) d).now (get_or ns later e).now).0 equal in
    record {
      name = (get_or ns (later - 1) d).now;
      first = later - 1;
      second = later;
      apart = omega (arith, some);
      at_first = named ns (later - 1) d earlier;
      at_second = named ns later e inside ∙ ap Some (sym same);
    }
  where
    named : (ns : List (Bor Name)) (k : ℕ) (d : Bor Name) → k < length ns → slice_get (names_of ns) k ≡ Some (get_or ns k d).now
    named ns k d within = slice_get-map (λ n. n.now) ns k ∙ ap (option_map (λ n. n.now)) (slice_get-get_or ns k d within)

-- ---- names that are copied

module _ {X : Type 0} (name_of : X → Name) (xs : List X) where
  -- sorted copies are the names in another order
  pub sorted_copies : (room sorted : List (Bor Name)) (index : ℕ) → length xs ≤ index → index ≤ length xs → names_of (take index room) ≡ map name_of (take index xs) → IsPermutation (take (length xs) room) sorted → IsPermutation (map name_of xs) (names_of sorted)
  sorted_copies room sorted index past upto copied moved =
      let here : index ≡ length xs = omega (arith, past, upto) in
      let same : names_of (take (length xs) room) ≡ map name_of xs = ap (λ n. names_of (take n room)) (sym here) ∙ copied ∙ ap (λ n. map name_of (take n xs)) here ∙ ap (map name_of) (take_all (length xs) xs (omega arith)) in
      let P : List Name → Type 0 = λ l. IsPermutation l (names_of sorted) in
      subst P same (IsPermutation-map (λ n. n.now) (take (length xs) room) sorted moved)

  -- whether an item has one of the names is whether they share one
  pub found_is_shared : (names : List Name) → list_any (λ x. list_any (λ n. bytes_eq n (name_of x)) names) xs ≡ is_shared (map name_of xs) names
  found_is_shared names = sym (list_any-map (λ b. list_any (λ n. bytes_eq n b) names) name_of xs)

-- ---- a stretch of items

module _ {X : Type 0} (name_of : X → Name) (xs : List X) where
  pub name_at : (index : ℕ) (x : X) (name : Name) → slice_get xs index ≡ Some x → name ≡ name_of x → slice_get (map name_of xs) index ≡ Some name
  name_at index x name at named = slice_get-map name_of xs index ∙ ap (option_map name_of) at ∙ ap Some (sym named)

  module _ (index end : ℕ) (upto : index ≤ end) (within : end ≤ length xs) where
    within_names : end ≤ length (map name_of xs)
    within_names = omega (arith, within, length-map xs name_of)

    same_front : map name_of (take index xs) ≡ take index (map name_of xs)
    same_front = sym (take-map name_of index xs)

    same_stretch : map name_of (slice_range xs index end) ≡ slice_range (map name_of xs) index end
    same_stretch = sym (ap (take (end - index)) (drop-map name_of index xs) ∙ take-map name_of (end - index) (drop index xs))

    of_names : RepeatsInStretch (map name_of (take index xs)) (map name_of (slice_range xs index end)) ≡ RepeatsInStretch (take index (map name_of xs)) (slice_range (map name_of xs) index end)
    of_names = ap (λ l. RepeatsInStretch l (map name_of (slice_range xs index end))) same_front ∙ ap (RepeatsInStretch (take index (map name_of xs))) same_stretch

    pub items_apart : ApartBelow (map name_of xs) index → ¬ RepeatsInStretch (map name_of (take index xs)) (map name_of (slice_range xs index end)) → ApartBelow (map name_of xs) end
    items_apart apart fresh =
        apart_to_end (map name_of xs) index end upto within_names apart (λ one. fresh (subst (λ (A : Type 0). A) (sym of_names) one))

    pub items_repeated : RepeatsInStretch (map name_of (take index xs)) (map name_of (slice_range xs index end)) → RepeatsName (map name_of xs)
    items_repeated one =
        repeated_in_stretch (map name_of xs) index end upto within_names (subst (λ (A : Type 0). A) of_names one)

-- a stretch begins before the end of a list, and ends there at the latest
pub stretch_ends : (most taken index long : ℕ) → 0 < most → index < long → taken ≡ min most (long - index) → (index + 1 ≤ index + taken) × (index + taken ≤ long)
stretch_ends most taken index long some inside is =
    let one : 1 ≤ min most (long - index) = le-min (omega (arith, some)) (omega (arith, inside)) in
    let upto = min-le_right most (long - index) in
    (omega (arith, is, one), omega (arith, is, upto, inside))
