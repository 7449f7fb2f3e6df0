-- A map or a set whose keys lie behind references, as a finite map or set of what they say.
use Rattle.std.proofs.Common.{◌≡◌, true, false, cond, ◌||◌, ◌&&◌, not, inl, inr, List, [], ◌∷◌, map, Some, refl, sym, ◌∙◌, ap}
use Rattle.std.specs.declared.cmp.Ordering.{Ordering}
use Rattle.std.specs.declared.cmp.Ordering.TheVariants.{Less, Equal, Greater}
use Rattle.std.specs.Cmp.{IsTotalOrder}
use Rattle.std.specs.Ordering.{eq_by_cmp, is_eq, match_ordering, ordering_then}
use Rattle.std.specs.Cmp.Lexicographic.{slice_cmp}
use Rattle.std.specs.Map.{lookup}
use Rattle.std.specs.List.{list_any, AllByRecursion, IsDistinct}
use Rattle.std.specs.BTreeMap.{insert_entry, is_at}
use Rattle.std.specs.BTreeSet.{insert_key}
use Rattle.std.specs.FinMap as finite
use Rattle.std.specs.FinSet as set
use Rattle.std.specs.Set.{remove_key}
use Rattle.std.specs.List.Sorted.{IsStrictlySortedBy}
use Rattle.std.proofs.lemmas.Map.Keys.{IsDistinct-from_sorted, IsDistinct-head, IsDistinct-tail}
use Rattle.std.proofs.lemmas.Cmp.{alike_right, eq_by_cmp_equiv}
use Rattle.std.proofs.lemmas.Bool.{false≢true}
use Rattle.std.proofs.Math.Bool.{and-false}
use Rattle.facet_solver_shape.proofs.Finite.{insert-insert_same, insert-present, insert-insert_other, insert_twice, insert_either_order, taken_back, kept, equal, cases_bool}

module _ {K J : Type 0} {R : K → K → Ordering} {S : J → J → Ordering} (o : IsTotalOrder S) (same : finite.IsAntisymmetric S) (key : K → J) (agree : (x y : K) → R x y ≡ S (key x) (key y)) where
  module _ {X : Type 0} where
    abbrev pub viewed : List (K × X) → finite.FinMap S X
    viewed es = finite.from_entries (map (λ e. (key e.0, e.1)) es)

    -- what is found
    pub get_viewed : (k : K) (es : List (K × X)) → finite.get (viewed es) (key k) ≡ lookup (is_at (R k)) es
    get_viewed k [] = finite.get-empty S (key k)
    get_viewed k (e ∷ es) =
        finite.get-insert o (viewed es) (key e.0) e.1 (key k)
        ∙ ap (λ r. cond (is_eq r) (Some e.1) (finite.get (viewed es) (key k))) (sym (agree k e.0))
        ∙ ap (cond (is_eq (R k e.0)) (Some e.1)) (get_viewed k es)

    -- what an insertion makes
    pub viewed-insert_entry : (k : K) (v : X) (es : List (K × X)) → viewed (insert_entry R es k v) ≡ finite.insert (viewed es) (key k) v
    viewed-insert_entry k v [] = refl
    viewed-insert_entry k v (e ∷ es) = go (R k e.0) (sym (agree k e.0)) (viewed-insert_entry k v es)
      where
        go : (r : Ordering) → S (key k) (key e.0) ≡ r → viewed (insert_entry R es k v) ≡ finite.insert (viewed es) (key k) v
            → viewed (match_ordering r ((k, v) ∷ e ∷ es) ((e.0, v) ∷ es) (e ∷ insert_entry R es k v)) ≡ finite.insert (viewed (e ∷ es)) (key k) v
        go Less is rest = refl
        go Equal is rest =
            rw (same _ _ is) (sym (insert-insert_same o same (viewed es) (key e.0) e.1 v))
        go Greater is rest =
            ap (λ m. finite.insert m (key e.0) e.1) rest
            ∙ sym (insert-insert_other o same (viewed es) (key e.0) (key k) e.1 v (ap is_eq is))

    -- what is found, put back
    pub viewed-put_back : (k : K) (v : X) (es : List (K × X)) → lookup (is_at (R k)) es ≡ Some v → viewed (insert_entry R es k v) ≡ viewed es
    viewed-put_back k v es found = viewed-insert_entry k v es ∙ insert-present o same (viewed es) (key k) v (get_viewed k es ∙ found)

  abbrev pub viewed_set : List K → set.FinSet S
  viewed_set ks = set.from_list (map key ks)

  pub contains_viewed : (k : K) (ks : List K) → set.contains (viewed_set ks) (key k) ≡ list_any (is_at (R k)) ks
  contains_viewed k [] = set.contains-empty S (key k)
  contains_viewed k (x ∷ xs) =
      set.contains-insert o (viewed_set xs) (key x) (key k)
      ∙ ap (λ r. is_eq r || set.contains (viewed_set xs) (key k)) (sym (agree k x))
      ∙ ap (λ b. is_eq (R k x) || b) (contains_viewed k xs)

  pub viewed_set-insert_key : (k : K) (ks : List K) → viewed_set (insert_key R ks k) ≡ set.insert (viewed_set ks) (key k)
  viewed_set-insert_key k [] = refl
  viewed_set-insert_key k (x ∷ xs) = go (R k x) (sym (agree k x)) (viewed_set-insert_key k xs)
    where
      go : (r : Ordering) → S (key k) (key x) ≡ r → viewed_set (insert_key R xs k) ≡ set.insert (viewed_set xs) (key k)
          → viewed_set (match_ordering r (k ∷ x ∷ xs) (x ∷ xs) (x ∷ insert_key R xs k)) ≡ set.insert (viewed_set (x ∷ xs)) (key k)
      go Less is rest = refl
      go Equal is rest = rw (same _ _ is) (sym (insert_twice o same (viewed_set xs) (key x)))
      go Greater is rest =
          ap (λ s. set.insert s (key x)) rest
          ∙ sym (insert_either_order o same (viewed_set xs) (key x) (key k))

  -- no later key ties with what ties with the first
  none_tied : (x : K) (xs : List K) (q : J) → AllByRecursion (λ y. eq_by_cmp R x y ≡ false) xs → S q (key x) ≡ Equal → list_any (eq_by_cmp S q) (map key xs) ≡ false
  none_tied x [] q apart tie = refl
  none_tied x (y ∷ ys) q apart tie =
      let here : eq_by_cmp S q (key y) ≡ false = ap is_eq (o.congr q (key x) (key y) tie) ∙ ap is_eq (sym (agree x y)) ∙ apart.0 in
      rw here (none_tied x ys q apart.1 tie)

  -- what a removal leaves
  pub viewed_set-remove_key : (k : K) (ks : List K) → IsStrictlySortedBy R ks → viewed_set (remove_key (is_at (R k)) ks) ≡ set.remove (viewed_set ks) (key k)
  viewed_set-remove_key k ks sorted = set.same_set o same _ _ (λ q.
      set.contains-from_list o _ q
      ∙ left k ks (IsDistinct-from_sorted R ks sorted) q
      ∙ sym (set.contains-remove o (viewed_set ks) (key k) q ∙ ap (λ b. not (eq_by_cmp S q (key k)) && b) (set.contains-from_list o _ q)))
    where
      left : (k : K) (ks : List K) → IsDistinct (eq_by_cmp R) ks → (q : J)
          → list_any (eq_by_cmp S q) (map key (remove_key (is_at (R k)) ks)) ≡ (not (eq_by_cmp S q (key k)) && list_any (eq_by_cmp S q) (map key ks))
      left k [] distinct q = sym (and-false _)
      left k (x ∷ xs) distinct q =
          elim (cases_bool (eq_by_cmp R k x)) [
            | inl ties ↦
                let tied : S (key k) (key x) ≡ Equal = sym (agree k x) ∙ equal (R k x) ties in
                let alike : eq_by_cmp S q (key k) ≡ eq_by_cmp S q (key x) = ap is_eq (alike_right o (key k) (key x) q tied) in
                let none : eq_by_cmp S q (key x) ≡ true → list_any (eq_by_cmp S q) (map key xs) ≡ false =
                λ t. none_tied x xs q (IsDistinct-head (eq_by_cmp R) x xs distinct) (equal (S q (key x)) t) in
                rw (ties, alike) (sym (taken_back (eq_by_cmp S q (key x)) _ none))
            | inr differs ↦
                let apart : eq_by_cmp S q (key k) ≡ true → eq_by_cmp S q (key x) ≡ true → ⊥ =
                λ at_k at_x. false≢true (sym differs ∙ ap is_eq (agree k x) ∙ sym ((eq_by_cmp_equiv o).congr q (key k) (key x) at_k) ∙ at_x) in
                rw differs (kept (eq_by_cmp S q (key k)) (eq_by_cmp S q (key x)) _ _ (left k xs (IsDistinct-tail (eq_by_cmp R) x xs distinct) q) apart)
          ]

-- lists of keys behind references, in the order of what they say
pub slice_cmp-map : {K J : Type 0} (S : J → J → Ordering) (key : K → J) (xs ys : List K) → slice_cmp (λ x y. S (key x) (key y)) xs ys ≡ slice_cmp S (map key xs) (map key ys)
slice_cmp-map S key [] [] = refl
slice_cmp-map S key [] (y ∷ ys) = refl
slice_cmp-map S key (x ∷ xs) [] = refl
slice_cmp-map S key (x ∷ xs) (y ∷ ys) = ap (ordering_then (S (key x) (key y))) (slice_cmp-map S key xs ys)
