-- Names that are sought among sorted ones, behind one that is before them.
use Rattle.std.proofs.Common.{◌≡◌, ◌∙◌, ◌⊎◌, inl, inr, ap, sym, subst, refl, arith, ℕ, ◌+◌, ◌-◌, ◌<◌, ◌≤◌}
use Rattle.std.proofs.Common.{◌||◌, Bool, true, false, Bor, List, Some, Result, Less, Equal}
use Rattle.std.proofs.Common.{bytes_eq, drop, get_or, is_eq, is_lt, length, slice_get, take, IsSorted}
use Rattle.std.specs.Cmp.Lexicographic.{slice_cmp}
use Rattle.std.specs.List.{list_any}
use Rattle.std.specs.List.Sorted.{IsBinarySearchResult, IsSearchInRange}
use Rattle.std.specs.Ordering.{nat_cmp}
use Rattle.std.specs.Result.{is_ok}
use Rattle.std.proofs.lemmas.Bool.{false≢true}
use Rattle.std.proofs.lemmas.List.{get_or-drop, get_or-take, length-drop, length-take, take-append-drop, take_all}
use Rattle.std.proofs.lemmas.List.Folds.{list_any-append, list_any-from_Any, list_any_none}
use Rattle.std.proofs.lemmas.List.Sorted.{ranks_by, sorted_far}
use Rattle.std.proofs.lemmas.Map.Text.{is_eq-slice_cmp}
use Rattle.std.proofs.lemmas.Option.{get_or_from_slice_get, slice_get_within}
use Rattle.std.proofs.lemmas.Slice.Eq.{bytes_eq-Decides}
use Rattle.facet_solver_shape.specs.Names.{Name, name_ref_cmp}
use Rattle.facet_solver_shape.proofs.Lists.{list_any-map}
use Rattle.facet_solver_shape.proofs.RepeatedNames.{found_by_halving}
use Rattle.facet_solver_reader.proofs.NodeNames.{name_ref_total}
use Rattle.facet_solver_reader.proofs.Quantifiers.{any_at}

module _ (ns : List (Bor Name)) (x : Name) where
  -- a name is the one that is sought
  abbrev test : Bor Name → Bool
  test n = bytes_eq n.now x

  -- it is there, where one is equal to it
  pub found_next : (i : ℕ) (n : Bor Name) → slice_get ns i ≡ Some n
      → slice_cmp nat_cmp n.now x ≡ Equal → true ≡ list_any (λ (n : Bor Name). bytes_eq n.now x) ns
  found_next i n at tie =
      sym (list_any-from_Any test ns
      (any_at (λ m. test m ≡ true) ns i n at (sym (is_eq-slice_cmp n.now x) ∙ ap is_eq tie)))

  module _ (sorted : IsSorted name_ref_cmp ns) (start : ℕ) where
    -- the names from an index on
    abbrev behind : List (Bor Name)
    behind = take (length ns - start) (drop start ns)

    behind_is : behind ≡ drop start ns
    behind_is = take_all (length ns - start) (drop start ns) (omega (arith, length-drop start ns))

    behind_sorted : IsSorted name_ref_cmp (drop start ns)
    behind_sorted k d low less =
        let later : start + (k + 1) ≡ (start + k) + 1 = omega arith in
        let one : get_or (drop start ns) (k + 1) d ≡ get_or ns ((start + k) + 1) d =
        get_or-drop start ns (k + 1) d ∙ ap (λ i. get_or ns i d) later in
        let other = get_or-drop start ns k d in
        (λ i. is_lt (name_ref_cmp (one i) (other i)))
        ∙ sorted (start + k) d (omega arith) (omega (arith, less, length-drop start ns))

    -- it is sought among all, or behind one that is before it
    abbrev pub IsPast : Type 0
    IsPast =
        (start ≡ 0)
        ⊎ ((i : ℕ) × (n : Bor Name) × (start ≡ i + 1) × (slice_get ns i ≡ Some n)
        × (slice_cmp nat_cmp n.now x ≡ Less))

    -- so those before are others
    none_before : IsPast → list_any test (take start ns) ≡ false
    none_before (inl zeroth) = ap (λ k. list_any test (take k ns)) zeroth
    none_before (inr past) = list_any_none test (take start ns) other
      where
        within : past.0 < length ns
        within = slice_get_within ns past.0 past.1 past.3

        other : (k : ℕ) (d : Bor Name) → k < length (take start ns)
            → test (get_or (take start ns) k d) ≡ false
        other k d less =
            let low : k < past.0 + 1 = omega (arith, less, length-take start ns, past.2, within) in
            let here = get_or-take start ns k d (omega (arith, low, past.2)) in
            ap test here ∙ apart (test (get_or ns k d)) refl
          where
            apart : (b : Bool) → test (get_or ns k d) ≡ b → test (get_or ns k d) ≡ false
            apart false e = e
            apart true e =
                let i = past.0 in
                let within = slice_get_within ns i past.1 past.3 in
                let low : k ≤ i = omega (arith, less, length-take start ns, past.2, within) in
                let same = (bytes_eq-Decides (get_or ns k d).now x).0 e in
                let is : get_or ns i d ≡ past.1 = get_or_from_slice_get ns i past.1 d past.3 in
                let lt : is_lt (name_ref_cmp (get_or ns i d) (get_or ns k d)) ≡ true =
                ap (λ y. is_lt (slice_cmp nat_cmp (get_or ns i d).now y)) same
                ∙ ap (λ (n : Bor Name). is_lt (slice_cmp nat_cmp n.now x)) is
                ∙ ap is_lt past.4 in
                let not_lt =
                sorted_far (λ (m n : Bor Name). is_lt (name_ref_cmp m n))
                (ranks_by name_ref_total (λ (n : Bor Name). n)) ns sorted k i d low within in
                absurd (false≢true (sym not_lt ∙ lt))

    -- what halving these answers is whether the name is one of all
    pub found_behind : IsPast → (r : Result ℕ ℕ) → IsSearchInRange r (length behind)
        → IsBinarySearchResult (λ y. slice_cmp nat_cmp y.now x) behind r
        → is_ok r ≡ list_any (λ (n : Bor Name). bytes_eq n.now x) ns
    found_behind past r inside found =
        found_by_halving behind x r (subst (IsSorted name_ref_cmp) (sym behind_is) behind_sorted) inside found
        ∙ list_any-map (λ y. bytes_eq y x) (λ (n : Bor Name). n.now) behind
        ∙ ap (list_any test) behind_is
        ∙ ap (λ b. b || list_any test (drop start ns)) (sym (none_before past))
        ∙ sym (list_any-append test (take start ns) (drop start ns))
        ∙ ap (list_any test) (take-append-drop start ns)
