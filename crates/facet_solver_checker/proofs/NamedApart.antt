-- What is told of members of one name is told of their targets.
use Rattle.std.proofs.Common.{◌≡◌, ◌∙◌, ap, refl, subst, ℕ, Bool, true, false, List, [], ◌∷◌, ◌++◌}
use Rattle.std.proofs.Common.{◌&&◌, Option, Some, None, slice_get}
use Rattle.std.specs.List.{cons_option, filter_map, flat_map, list_all}
use Rattle.std.specs.Option.{option_map_or}
use Rattle.std.proofs.lemmas.List.Folds.{list_all-append}
use Rattle.facet_solver_shape.specs.Names.{Name}
use Rattle.facet_solver_reader.specs.declared.plan.PlannedList.{PlannedList}
use Rattle.facet_solver_reader.specs.declared.plan.PlannedPart.{PlannedPart}
use Rattle.facet_solver_checker.specs.declared.apart.Apart.{Apart}
use Rattle.facet_solver_checker.specs.Aparts.{is_apart}
use Rattle.facet_solver_checker.specs.NamedApart.{are_named_apart, is_list_apart}
use Rattle.facet_solver_checker.specs.NamedApart.{is_list_apart_from, is_number_apart}
use Rattle.facet_solver_checker.specs.NamedApart.{is_number_apart_from, is_part_apart}
use Rattle.facet_solver_checker.specs.NamedApart.{is_part_apart_from, is_target_apart}
use Rattle.facet_solver_checker.specs.PlanMembers.{target_named, targets_at, targets_below}
use Rattle.facet_solver_checker.specs.PlanMembers.{targets_in}
use Rattle.facet_solver_checker.specs.Ways.{all_apart, is_apart_from}

module _ {X Y : Type 0} (p : Y → Bool) (q : X → Bool) where
  -- what all have that lists come to
  all_of_flat : (f : X → List Y) → ((x : X) → list_all p (f x) ≡ q x) → (xs : List X)
      → list_all p (flat_map f xs) ≡ list_all q xs
  all_of_flat f same [] = refl
  all_of_flat f same (x ∷ xs) =
      list_all-append p (f x) (flat_map f xs)
      ∙ ap (λ b. b && list_all p (flat_map f xs)) (same x)
      ∙ ap (λ b. q x && b) (all_of_flat f same xs)

  -- what all have that is picked
  all_of_picked : (f : X → Option Y) → ((x : X) → option_map_or p (f x) true ≡ q x)
      → (xs : List X) → list_all p (filter_map f xs) ≡ list_all q xs
  all_of_picked f same [] = refl
  all_of_picked f same (x ∷ xs) = go (f x) refl (same x) (all_of_picked f same xs)
    where
      go : (o : Option Y) → f x ≡ o → option_map_or p (f x) true ≡ q x
          → list_all p (filter_map f xs) ≡ list_all q xs
          → list_all p (filter_map f (x ∷ xs)) ≡ list_all q (x ∷ xs)
      go None e here more =
          let one : true ≡ q x = subst (λ (o : Option Y). option_map_or p o true ≡ q x) e here in
          ap (λ (o : Option Y). list_all p (cons_option o (filter_map f xs))) e ∙ more
          ∙ ap (λ b. b && list_all q xs) one
      go (Some y) e here more =
          let one : p y ≡ q x = subst (λ (o : Option Y). option_map_or p o true ≡ q x) e here in
          ap (λ (o : Option Y). list_all p (cons_option o (filter_map f xs))) e
          ∙ ap (λ b. b && list_all p (filter_map f xs)) one ∙ ap (λ b. q x && b) more

module _ (apart : Apart) (lists : List PlannedList) (x : Name) where
  -- a target and those of the list of a number
  number_apart_from : (t n : ℕ)
      → list_all (λ u. is_apart apart t u) (targets_at lists x n)
      ≡ is_number_apart_from apart lists x t n
  number_apart_from t n = go (slice_get lists n)
    where
      go : (o : Option PlannedList)
          → list_all (λ u. is_apart apart t u) (option_map_or (targets_in x) o [])
          ≡ option_map_or (is_list_apart_from apart x t) o true
      go None = refl
      go (Some l) =
          all_of_picked (λ u. is_apart apart t u) (is_part_apart_from apart x t) (target_named x)
          (λ part. refl) l.parts.items

  -- and those of several lists
  target_apart : (second : List ℕ) (t : ℕ)
      → is_apart_from apart (targets_below lists x second) t
      ≡ is_target_apart apart lists x second t
  target_apart second t =
      all_of_flat (λ u. is_apart apart t u) (is_number_apart_from apart lists x t)
      (targets_at lists x) (number_apart_from t) second

  module _ (second : List ℕ) where
    -- those of a part and of several lists
    part_apart : (part : PlannedPart)
        → option_map_or (is_apart_from apart (targets_below lists x second)) (target_named x part)
        true
        ≡ is_part_apart apart lists x second part
    part_apart part = go (target_named x part)
      where
        go : (o : Option ℕ)
            → option_map_or (is_apart_from apart (targets_below lists x second)) o true
            ≡ option_map_or (is_target_apart apart lists x second) o true
        go None = refl
        go (Some t) = target_apart second t

    -- those of the list of a number and of several lists
    number_apart : (n : ℕ)
        → list_all (is_apart_from apart (targets_below lists x second)) (targets_at lists x n)
        ≡ is_number_apart apart lists x second n
    number_apart n = go (slice_get lists n)
      where
        go : (o : Option PlannedList)
            → list_all (is_apart_from apart (targets_below lists x second))
            (option_map_or (targets_in x) o [])
            ≡ option_map_or (is_list_apart apart lists x second) o true
        go None = refl
        go (Some l) =
            all_of_picked (is_apart_from apart (targets_below lists x second))
            (is_part_apart apart lists x second) (target_named x) part_apart l.parts.items

    -- those of several lists and of others
    pub named_apart : (first : List ℕ)
        → all_apart apart (targets_below lists x first) (targets_below lists x second)
        ≡ are_named_apart apart lists x first second
    named_apart first =
        all_of_flat (is_apart_from apart (targets_below lists x second))
        (is_number_apart apart lists x second) (targets_at lists x) number_apart first
