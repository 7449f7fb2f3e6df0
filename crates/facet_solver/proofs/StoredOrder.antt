-- Fields that stand under their stored keys rise by them, and so do some of them.
use Rattle.std.proofs.Common.{◌≡◌, Bool, true, false, cond, T, List, [], ◌∷◌, filter, map, ap, sym, subst, ◌∙◌}
use Rattle.std.specs.declared.cmp.Ordering.TheVariants.{Less}
use Rattle.std.specs.FinMap as finite
use Rattle.std.specs.FinMap.Entries.{below_all}
use Rattle.std.specs.List.{AllByRecursion}
use Rattle.std.specs.List.Sorted.{IsStrictlySortedBy}
use Rattle.facet_solver_shape.specs.Fields.{FieldView, IsStored, key_of_field}
use Rattle.facet_solver_shape.specs.Keys.{Key, key_cmp}
use Rattle.facet_solver_shape.proofs.Resolved.{first_part, less, second_part}

-- the keys of fields that are left rise above a key
above : (p : FieldView → Bool) (key : Key) (es : List (Key × FieldView)) → AllByRecursion IsStored es → T (below_all key_cmp key es)
    → AllByRecursion (λ k. key_cmp key k ≡ Less) (map key_of_field (filter p (map (λ (e : Key × FieldView). e.1) es)))
above p key [] stored below = tt
above p key (e ∷ es) stored below = go (p e.1) (above p key es stored.1 (second_part _ _ below))
  where
    go : (b : Bool) → AllByRecursion (λ k. key_cmp key k ≡ Less) (map key_of_field (filter p (map (λ (e : Key × FieldView). e.1) es)))
        → AllByRecursion (λ k. key_cmp key k ≡ Less) (map key_of_field (cond b (e.1 ∷ filter p (map (λ (e : Key × FieldView). e.1) es)) (filter p (map (λ (e : Key × FieldView). e.1) es))))
    go true later = (ap (key_cmp key) (sym stored.0) ∙ less (key_cmp key e.0) (first_part _ _ below), later)
    go false later = later

-- the keys of fields that are left rise
pub stored_rise : (p : FieldView → Bool) (es : List (Key × FieldView)) → AllByRecursion IsStored es → T (finite.is_sorted key_cmp es)
    → IsStrictlySortedBy key_cmp (map key_of_field (filter p (map (λ (e : Key × FieldView). e.1) es)))
unfolding IsStrictlySortedBy
stored_rise p [] stored rising = tt
stored_rise p (e ∷ es) stored rising = go (p e.1) (stored_rise p es stored.1 (second_part _ _ rising))
  where
    go : (b : Bool) → IsStrictlySortedBy key_cmp (map key_of_field (filter p (map (λ (e : Key × FieldView). e.1) es)))
        → IsStrictlySortedBy key_cmp (map key_of_field (cond b (e.1 ∷ filter p (map (λ (e : Key × FieldView). e.1) es)) (filter p (map (λ (e : Key × FieldView). e.1) es))))
    go true later = (above p (key_of_field e.1) es stored.1 (subst (λ k. T (below_all key_cmp k es)) stored.0 (first_part _ _ rising)), later)
    go false later = later
