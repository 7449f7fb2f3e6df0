-- Names with numbers, sorted by name.
use Rattle.std.proofs.Common.{◌≡◌, ℕ, ◌+◌, ◌-◌, ◌<◌, ◌≤◌, true, false, List, [], length, Some, slice_get, get_or, refl, sym, ap, ◌∙◌, arith, Bor, Contains, IsSorted, Ordering, Less, Equal, Greater, is_lt, is_eq, bytes_eq, inl, inr}
use Rattle.std.specs.Cmp.{IsTotalOrder}
use Rattle.std.specs.Cmp.Lexicographic.{nat_list_cmp_total, slice_cmp}
use Rattle.std.specs.List.Sorted.{IsSortedBy, IsSortedByKey}
use Rattle.std.specs.Option.{option_map}
use Rattle.std.specs.Ordering.{nat_cmp, ordering_reverse}
use Rattle.std.proofs.lemmas.Bool.{false≢true, cases_lt}
use Rattle.std.proofs.lemmas.Cmp.{on_total}
use Rattle.std.proofs.Math.ListN.{get_or-map}
use Rattle.std.proofs.Common.{◌⊎◌, Option, None, MatchOption, take, drop}
use Rattle.std.proofs.lemmas.List.{get_or-drop, get_or-take, length-drop, length-map, length-take}
use Rattle.std.proofs.lemmas.List.Sorted.{IsPermutation-refl, ranks_by, sorted_far}
use Rattle.std.proofs.lemmas.Map.Text.{is_eq-slice_cmp}
use Rattle.std.proofs.lemmas.Option.{slice_get-map, slice_get-get_or, slice_get_within, get_or_from_slice_get, same_Some, some_pair_parts}
use Rattle.std.proofs.lemmas.Slice.Eq.{bytes_eq-Decides}
use Rattle.facet_solver_shape.specs.Names.{Name, name_ref_cmp, names_of}
use Rattle.facet_solver_shape.proofs.RepeatedNames.{not_repeated_sorted}
use Rattle.facet_solver_reader.specs.Places.{IsRepeated}
use Rattle.facet_solver_reader.specs.Nodes.{AreByName, AreNamesOf, Named, entries, names_among}

-- a name with a number
abbrev pub Item : Type 0
Item = Bor Name × ℕ

-- names behind references are in a total order
pub name_ref_total : IsTotalOrder name_ref_cmp
name_ref_total = on_total (λ (n : Bor Name). n.now) nat_list_cmp_total

-- the name at an index
read_name : (es : Named) (k : ℕ) (d : Bor Name) → get_or (names_among es) k d ≡ (get_or es k (d, 0)).0
read_name es k d = let first : Item → Bor Name = λ e. e.0 in get_or-map first es k (d, 0)

long_names : (es : Named) → length (names_among es) ≡ length es
long_names es = let first : Item → Bor Name = λ e. e.0 in length-map es first

-- ---- names that rise

less_back : (o p : Ordering) → o ≡ ordering_reverse p → p ≡ Less → is_lt o ≡ false
less_back o p turned less = ap is_lt (turned ∙ ap ordering_reverse less)

-- each name is before the next
abbrev pub AreRising : Named → Type 0
AreRising es = (k : ℕ) (d : Item) → k + 1 < length es → name_ref_cmp (get_or es k d).0 (get_or es (k + 1) d).0 ≡ Less

module _ (es : Named) (rise : AreRising es) where
  rise_names : (k : ℕ) (d : Bor Name) → k + 1 < length (names_among es) → name_ref_cmp (get_or (names_among es) k d) (get_or (names_among es) (k + 1) d) ≡ Less
  rise_names k d less =
      ap (λ x. name_ref_cmp x (get_or (names_among es) (k + 1) d)) (read_name es k d)
      ∙ ap (name_ref_cmp (get_or es k (d, 0)).0) (read_name es (k + 1) d)
      ∙ rise k (d, 0) (omega (arith, less, long_names es))

  rising_sorted : IsSorted name_ref_cmp (names_among es)
  rising_sorted k d low less = less_back _ _ (name_ref_total.antisymm (get_or (names_among es) (k + 1) d) (get_or (names_among es) k d)) (rise_names k d less)

  pub by_name_rising : AreByName es
  by_name_rising = record {
    sorted = rising_sorted;
    apart = not_repeated_sorted (names_among es) rising_sorted
        (λ k less d. sym (is_eq-slice_cmp (get_or (names_among es) k d).now (get_or (names_among es) (k + 1) d).now) ∙ ap is_eq (rise_names k d less));
  }

-- ---- sorted names

-- items sorted by name have sorted names
pub sorted_names : (es : Named) → IsSortedByKey (λ (e : Item). e.0) name_ref_cmp es → IsSorted name_ref_cmp (names_among es)
sorted_names es sorted k d low less =
    ap (λ (n : Bor Name). is_lt (name_ref_cmp n (get_or (names_among es) k d))) (read_name es (k + 1) d)
    ∙ ap (λ (n : Bor Name). is_lt (name_ref_cmp (get_or es (k + 1) (d, 0)).0 n)) (read_name es k d)
    ∙ sorted k (d, 0) low (omega (arith, less, long_names es))

-- each name differs from the next
abbrev pub DifferBelow : Named → ℕ → Type 0
DifferBelow es n = (k : ℕ) (d : Item) → k + 1 < n → bytes_eq (get_or es k d).0.now (get_or es (k + 1) d).0.now ≡ false

-- sorted names of which each differs from the next
pub by_name_apart : (es : Named) → IsSorted name_ref_cmp (names_among es) → DifferBelow es (length es) → AreByName es
by_name_apart es sorted differ = record {
  sorted = sorted;
  apart = not_repeated_sorted (names_among es) sorted
      (λ k less d.
      ap (λ x. bytes_eq x.now (get_or (names_among es) (k + 1) d).now) (read_name es k d)
      ∙ ap (λ x. bytes_eq (get_or es k (d, 0)).0.now x.now) (read_name es (k + 1) d)
      ∙ differ k (d, 0) (omega (arith, less, long_names es)));
}

pub name_at : (es : Named) (k : ℕ) (d : Item) → k < length es → slice_get (names_of (names_among es)) k ≡ Some (get_or es k d).0.now
name_at es k d within =
    let first : Item → Bor Name = λ e. e.0 in
    slice_get-map (λ n. n.now) (names_among es) k
    ∙ ap (option_map (λ n. n.now)) (slice_get-map first es k ∙ ap (option_map first) (slice_get-get_or es k d within))

-- a name that is the next one too
pub repeated_here : (es : Named) (later : ℕ) (d e : Item) → 0 < later → later < length es → bytes_eq (get_or es (later - 1) d).0.now (get_or es later e).0.now ≡ true → IsRepeated (names_of (names_among es)) (get_or es (later - 1) d).0.now
repeated_here es later d e some within equal =
    let same = (bytes_eq-Decides (get_or es (later - 1) d).0.now (get_or es later e).0.now).0 equal in
    record {
      twice = record {
        name = (get_or es (later - 1) d).0.now;
        first = later - 1;
        second = later;
        apart = omega (arith, some);
        at_first = name_at es (later - 1) d (omega (arith, within));
        at_second = name_at es later e within ∙ ap Some (sym same);
      };
      name_is = refl;
    }

-- no names are those of no members
pub no_names : (first : ℕ) → AreNamesOf [] first []
no_names first = record {
  same = IsPermutation-refl [];
  by_name = record {
    sorted = λ k d low less. absurd (omega (arith, less));
    apart = λ twice. let within = slice_get_within [] twice.second twice.name twice.at_second in absurd (omega (arith, within));
  };
}

-- ---- names at indices

-- a name with a number stands at an index
pub contains_at : {X : Type 0} (xs : List X) (k : ℕ) (x : X) → slice_get xs k ≡ Some x → Contains xs x
contains_at xs k x at = (k, slice_get_within xs k x at, get_or_from_slice_get xs k x x at)

pub at_contained : {X : Type 0} (xs : List X) (x : X) → (held : Contains xs x) → slice_get xs held.0 ≡ Some x
at_contained xs x held = slice_get-get_or xs held.0 x held.1 ∙ ap Some held.2

entry_at : (es : Named) (k : ℕ) (d : Item) → k < length es → slice_get (entries es) k ≡ Some ((get_or es k d).0.now, (get_or es k d).1)
entry_at es k d within =
    let entry : Item → Name × ℕ = λ e. (e.0.now, e.1) in
    slice_get-map entry es k ∙ ap (option_map entry) (slice_get-get_or es k d within)

sorted_items : (es : Named) → IsSorted name_ref_cmp (names_among es) → IsSortedBy (λ (a b : Item). is_lt (slice_cmp nat_cmp a.0.now b.0.now)) es
sorted_items es sorted k d low less =
    let first : Item → Bor Name = λ e. e.0 in
    ap (λ (n : Bor Name). is_lt (name_ref_cmp n (get_or es k d).0)) (sym (get_or-map first es (k + 1) d))
    ∙ ap (λ (n : Bor Name). is_lt (name_ref_cmp (get_or (names_among es) (k + 1) d.0) n)) (sym (get_or-map first es k d))
    ∙ sorted k d.0 low (omega (arith, less, long_names es))

-- ---- what a walk finds

module _ (es : Named) (x : Name) where
  -- the name at an index is the one that is sought
  pub found_here : (i : ℕ) (d : Item) → i < length es → bytes_eq (get_or es i d).0.now x ≡ true
      → Contains (entries es) (x, (get_or es i d).1)
  found_here i d within tie =
      let same = (bytes_eq-Decides (get_or es i d).0.now x).0 tie in
      contains_at (entries es) i (x, (get_or es i d).1)
      (entry_at es i d within ∙ ap (λ n. Some (n, (get_or es i d).1)) same)

  -- the names below an index are others
  abbrev pub NoneBelow : ℕ → Type 0
  NoneBelow n = (k : ℕ) (d : Item) → k < n → bytes_eq (get_or es k d).0.now x ≡ false

  -- none where all are others
  pub none_here : NoneBelow (length es) → (n : ℕ) → ¬ Contains (entries es) (x, n)
  none_here others n held =
      let k = held.0 in
      let entry : Item → Name × ℕ = λ e. (e.0.now, e.1) in
      let within : k < length es = omega (arith, held.1, length-map es entry) in
      let d : Item = (record { ref_ptr = (0, 0); now = [] }, 0) in
      let same : (get_or es k d).0.now ≡ x =
      (some_pair_parts (get_or es k d).0.now x (get_or es k d).1 n
      (sym (entry_at es k d within) ∙ at_contained (entries es) (x, n) held)).0 in
      false≢true (sym (others k d within) ∙ (bytes_eq-Decides (get_or es k d).0.now x).1 same)

-- ---- the least name that stands twice

neither_less : (o p : Ordering) → o ≡ ordering_reverse p → is_lt o ≡ false → is_lt p ≡ false → is_eq o ≡ true
neither_less o Less turned first second = absurd (false≢true (sym second))
neither_less o Equal turned first second = ap is_eq turned
neither_less o Greater turned first second = absurd (let less : is_lt o ≡ true = ap is_lt turned in false≢true (sym first ∙ less))

module _ (es : Named) (d : Item) (sorted : IsSorted name_ref_cmp (names_among es)) where
  -- a name is not less than one before it
  not_less : (i j : ℕ) → i ≤ j → j < length es → is_lt (slice_cmp nat_cmp (get_or es j d).0.now (get_or es i d).0.now) ≡ false
  not_less i j upto within =
      sorted_far (λ (a b : Item). is_lt (slice_cmp nat_cmp a.0.now b.0.now)) (ranks_by nat_list_cmp_total (λ (e : Item). e.0.now)) es (sorted_items es sorted) i j d upto within

  -- a name that stands at both ends of a stretch stands at its second place too
  same_next : (i j : ℕ) → i < j → j < length es → (get_or es j d).0.now ≡ (get_or es i d).0.now → bytes_eq (get_or es i d).0.now (get_or es (i + 1) d).0.now ≡ true
  same_next i j apart within same =
      let a = (get_or es i d).0.now in
      let b = (get_or es (i + 1) d).0.now in
      sym (is_eq-slice_cmp a b)
      ∙ neither_less (slice_cmp nat_cmp a b) (slice_cmp nat_cmp b a) (nat_list_cmp_total.antisymm a b)
      (ap (λ (x : Name). is_lt (slice_cmp nat_cmp x b)) (sym same) ∙ not_less (i + 1) j (omega (arith, apart)) within)
      (not_less i (i + 1) (omega arith) (omega (arith, apart, within)))

  pub least_here : (later : ℕ) → 0 < later → DifferBelow es later → (y : Name) → IsRepeated (names_of (names_among es)) y → is_lt (slice_cmp nat_cmp y (get_or es (later - 1) d).0.now) ≡ false
  least_here later some differ y repeated =
      let twice = repeated.twice in
      let first : Item → Bor Name = λ e. e.0 in
      let last : twice.second < length es = omega (arith, slice_get_within (names_of (names_among es)) twice.second twice.name twice.at_second, length-map (names_among es) (λ (n : Bor Name). n.now), long_names es) in
      let early : twice.first < length es = omega (arith, twice.apart, last) in
      let one : (get_or es twice.first d).0.now ≡ twice.name = same_Some _ _ (sym (name_at es twice.first d early) ∙ twice.at_first) in
      let two : (get_or es twice.second d).0.now ≡ twice.name = same_Some _ _ (sym (name_at es twice.second d last) ∙ twice.at_second) in
      elim (cases_lt (twice.first + 1) later) [
        | inl low ↦ absurd (false≢true (sym (differ twice.first d low) ∙ same_next twice.first twice.second twice.apart last (two ∙ sym one)))
        | inr high ↦
            ap (λ (x : Name). is_lt (slice_cmp nat_cmp x (get_or es (later - 1) d).0.now)) (sym (one ∙ repeated.name_is))
            ∙ not_less (later - 1) twice.first (omega (arith, high, some)) early
      ]

-- ---- what halving leaves

-- a name stands with a number
pub record Stands (es : Named) (x : Name) (n : ℕ) : Type 0 where
  pub index : ℕ
  pub within : index < length es
  pub name_is : (d : Item) → (get_or es index d).0.now ≡ x
  pub number_is : (d : Item) → (get_or es index d).1 ≡ n

pub stands : (es : Named) (x : Name) (n : ℕ) → Contains (entries es) (x, n) → Stands es x n
stands es x n held =
    let k = held.0 in
    let entry : Item → Name × ℕ = λ e. (e.0.now, e.1) in
    let within : k < length es = omega (arith, held.1, length-map es entry) in
    let parts = λ (d : Item). some_pair_parts (get_or es k d).0.now x (get_or es k d).1 n
    (sym (entry_at es k d within) ∙ at_contained (entries es) (x, n) held) in
    record {
      index = k;
      within = within;
      name_is = λ d. (parts d).0;
      number_is = λ d. (parts d).1;
    }

pub contains_standing : (es : Named) (x : Name) (n : ℕ) → Stands es x n
    → Contains (entries es) (x, n)
contains_standing es x n s =
    let d : Item = (record { ref_ptr = (0, 0); now = [] }, 0) in
    contains_at (entries es) s.index (x, n)
    (entry_at es s.index d s.within ∙ (ap (λ y. Some (y, (get_or es s.index d).1)) (s.name_is d)
    ∙ ap (λ m. Some (x, m)) (s.number_is d)))

-- where a name stands, it does so between two indices
pub record IsBetween (es : Named) (x : Name) (start end : ℕ) : Type 0 where
  pub ordered : start ≤ end
  pub upto : end ≤ length es
  pub stands_in : (n : ℕ) → Stands es x n
      → (m : ℕ) × (s : Stands es x m) × (start ≤ s.index) × (s.index < end)

pub between_all : (es : Named) (x : Name) (end : ℕ) → end ≡ length es → IsBetween es x 0 end
between_all es x end same =
    record {
      ordered = omega arith;
      upto = omega (arith, same);
      stands_in = λ n s. let inside = s.within in (n, s, omega arith, omega (arith, inside, same));
    }

module _ (es : Named) (x : Name) (sorted : IsSorted name_ref_cmp (names_among es))
    (start end middle : ℕ) (d : Item) (before : IsBetween es x start end) (low : start ≤ middle)
    (high : middle < end) where
  inside : middle < length es
  inside = let upto = before.upto in omega (arith, upto, high)

  -- where the name at the middle is greater, the name stands before it
  pub between_front : is_lt (slice_cmp nat_cmp x (get_or es middle d).0.now) ≡ true
      → IsBetween es x start middle
  between_front less =
      record {
        ordered = low;
        upto = omega (arith, inside);
        stands_in = λ n s.
            let k = before.stands_in n s in
            (k.0, k.1, k.2, at k.0 k.1 (cases_lt k.1.index middle));
      }
    where
      at : (m : ℕ) (s : Stands es x m) → (s.index < middle) ⊎ (middle ≤ s.index)
          → s.index < middle
      at m s (inl front) = front
      at m s (inr back) =
          absurd (false≢true (sym (not_less es d sorted middle s.index back s.within)
          ∙ (ap (λ (y : Name). is_lt (slice_cmp nat_cmp y (get_or es middle d).0.now)) (s.name_is d)
          ∙ less)))

  -- else it stands there or behind it
  pub between_back : is_lt (slice_cmp nat_cmp x (get_or es middle d).0.now) ≡ false
      → IsBetween es x middle end
  between_back not_before =
      record {
        ordered = omega (arith, high);
        upto = before.upto;
        stands_in = λ n s.
            let k = before.stands_in n s in at k.0 k.1 k.3 (cases_lt k.1.index middle);
      }
    where
      same_name : (m : ℕ) (s : Stands es x m) → s.index < middle
          → (get_or es middle d).0.now ≡ x
      same_name m s front =
          let mid = (get_or es middle d).0.now in
          let after : is_lt (slice_cmp nat_cmp mid x) ≡ false =
          ap (λ (y : Name). is_lt (slice_cmp nat_cmp mid y)) (sym (s.name_is d))
          ∙ not_less es d sorted s.index middle (omega (arith, front)) inside in
          let tie = neither_less (slice_cmp nat_cmp mid x) (slice_cmp nat_cmp x mid)
          (nat_list_cmp_total.antisymm mid x) after not_before in
          (bytes_eq-Decides mid x).0 (sym (is_eq-slice_cmp mid x) ∙ tie)

      here : (e : Item) → get_or es middle e ≡ get_or es middle d
      here e =
          same_Some _ _ (sym (slice_get-get_or es middle e inside)
          ∙ slice_get-get_or es middle d inside)

      at : (m : ℕ) (s : Stands es x m) → s.index < end → (s.index < middle) ⊎ (middle ≤ s.index)
          → (k : ℕ) × (t : Stands es x k) × (middle ≤ t.index) × (t.index < end)
      at m s within (inr back) = (m, s, back, within)
      at m s within (inl front) =
          let t : Stands es x (get_or es middle d).1 = record {
            index = middle;
            within = inside;
            name_is = λ e. ap (λ (y : Item). y.0.now) (here e) ∙ same_name m s front;
            number_is = λ e. ap (λ (y : Item). y.1) (here e);
          } in
          ((get_or es middle d).1, t, omega arith, high)

module _ (es : Named) (x : Name) (start end : ℕ) (between : IsBetween es x start end) where
  -- the names between them
  abbrev pub part_of : Named
  part_of = take (end - start) (drop start es)

  long_part : length part_of ≡ end - start
  long_part =
      let ordered = between.ordered in
      let upto = between.upto in
      omega (arith, length-take (end - start) (drop start es), length-drop start es, ordered, upto)

  read_part : (k : ℕ) (d : Item) → k < end - start → get_or part_of k d ≡ get_or es (start + k) d
  read_part k d within =
      get_or-take (end - start) (drop start es) k d within ∙ get_or-drop start es k d

  of_part : (n : ℕ) → Stands part_of x n → Stands es x n
  of_part n s =
      let low : s.index < end - start = let inside = s.within in omega (arith, inside, long_part) in
      let same = λ (d : Item). read_part s.index d low in
      let ordered = between.ordered in
      let upto = between.upto in
      record {
        index = start + s.index;
        within = omega (arith, low, ordered, upto);
        name_is = λ d. sym (ap (λ (e : Item). e.0.now) (same d)) ∙ s.name_is d;
        number_is = λ d. sym (ap (λ (e : Item). e.1) (same d)) ∙ s.number_is d;
      }

  in_part : (n : ℕ) (s : Stands es x n) → start ≤ s.index → s.index < end → Stands part_of x n
  in_part n s low high =
      let there : start + (s.index - start) ≡ s.index = omega (arith, low) in
      let inside : s.index - start < end - start = omega (arith, low, high) in
      let same = λ (d : Item). read_part (s.index - start) d inside
      ∙ ap (λ k. get_or es k d) there in
      record {
        index = s.index - start;
        within = omega (arith, inside, long_part);
        name_is = λ d. ap (λ (e : Item). e.0.now) (same d) ∙ s.name_is d;
        number_is = λ d. ap (λ (e : Item). e.1) (same d) ∙ s.number_is d;
      }

  -- what a walk finds between them is what is to be found
  pub found_between : (r : Option ℕ)
      → MatchOption r ((n : ℕ) → ¬ Contains (entries part_of) (x, n))
      (λ n. Contains (entries part_of) (x, n))
      → MatchOption r ((n : ℕ) → ¬ Contains (entries es) (x, n))
      (λ n. Contains (entries es) (x, n))
  found_between None none = λ n held.
      let k = between.stands_in n (stands es x n held) in
      none k.0 (contains_standing part_of x k.0 (in_part k.0 k.1 k.2 k.3))
  found_between (Some n) held =
      contains_standing es x n (of_part n (stands part_of x n held))
