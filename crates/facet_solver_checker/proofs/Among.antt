-- What stands in lists that are made of others.
use Rattle.std.proofs.Common.{◌≡◌, ◌∙◌, sym, ap, subst, refl, ℕ, zero, suc, List, [], ◌∷◌, ◌++◌}
use Rattle.std.proofs.Common.{Option, Some, None, slice_get}
use Rattle.std.specs.List.{cons_option, filter_map, flat_map}
use Rattle.facet_solver_checker.specs.PlanMembers.{IsIn}

module _ {X : Type 0} (x : X) where
  -- what stands in a list stands in it with one more before it
  pub in_tail : (y : X) (xs : List X) → IsIn x xs → IsIn x (y ∷ xs)
  in_tail y xs h = (suc h.0, h.1)

  -- it is the first, or it stands in the rest
  pub in_cases : (P : X → Type 0) (y : X) (xs : List X) → P y → ((z : X) → IsIn z xs → P z)
      → IsIn x (y ∷ xs) → P x
  in_cases P y xs first others h = go h.0 h.1
    where
      go : (k : ℕ) → slice_get (y ∷ xs) k ≡ Some x → P x
      go zero e = let same : y ≡ x = cc in subst P same first
      go (suc k) e = others x (k, e)

  -- what stands in the first of two lists stands in both
  pub in_left : (xs ys : List X) → IsIn x xs → IsIn x (xs ++ ys)
  in_left [] ys (k, e) = absurd (cc)
  in_left (z ∷ xs) ys (zero, e) = (zero, e)
  in_left (z ∷ xs) ys (suc k, e) = in_tail z (xs ++ ys) (in_left xs ys (k, e))

  -- so does what stands in the second
  pub in_right : (xs ys : List X) → IsIn x ys → IsIn x (xs ++ ys)
  in_right [] ys h = h
  in_right (z ∷ xs) ys h = in_tail z (xs ++ ys) (in_right xs ys h)

  -- and in a list with one more, that may be absent, before it
  pub in_behind : (o : Option X) (xs : List X) → IsIn x xs → IsIn x (cons_option o xs)
  in_behind None xs h = h
  in_behind (Some y) xs h = in_tail y xs h

-- what a function gives of an element
module _ {X Y : Type 0} where
  pub in_filter_map : (f : X → Option Y) (x : X) (y : Y) → f x ≡ Some y → (xs : List X)
      → IsIn x xs → IsIn y (filter_map f xs)
  in_filter_map f x y e [] (k, at) = absurd (cc)
  in_filter_map f x y e (z ∷ xs) (zero, at) =
      let same : z ≡ x = cc in
      subst (λ o. IsIn y (cons_option o (filter_map f xs))) (sym (ap f same ∙ e)) (zero, refl)
  in_filter_map f x y e (z ∷ xs) (suc k, at) =
      in_behind y (f z) (filter_map f xs) (in_filter_map f x y e xs (k, at))

  pub in_flat_map : (f : X → List Y) (x : X) (y : Y) → IsIn y (f x) → (xs : List X) → IsIn x xs
      → IsIn y (flat_map f xs)
  in_flat_map f x y there [] (k, at) = absurd (cc)
  in_flat_map f x y there (z ∷ xs) (zero, at) =
      let same : z ≡ x = cc in
      in_left y (f z) (flat_map f xs) (subst (λ w. IsIn y (f w)) (sym same) there)
  in_flat_map f x y there (z ∷ xs) (suc k, at) =
      in_right y (f z) (flat_map f xs) (in_flat_map f x y there xs (k, at))
