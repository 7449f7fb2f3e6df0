-- Which lists of shapes are catalogues, and which faults others have: the definitions, row by row.
use Rattle.std.proofs.Common.{◌≡◌, ℕ, zero, suc, ◌<◌, ◌≤◌, ◌⊎◌, List, [], ◌∷◌, Bool, true, false, Option, Some, None, IsSome, slice_get, refl, sym, ap, ◌∙◌, inl, inr, arith, codes}
use Rattle.std.proofs.lemmas.Bool.{false≢true}
use Rattle.facet_solver_shape.specs.declared.shape.Shape.{Shape}
use Rattle.facet_solver_shape.specs.declared.shape.Variant.{Variant}
use Rattle.facet_solver_shape.specs.declared.shape.ShapeKind.TheVariants as kinds
use Rattle.facet_solver_shape.specs.declared.shape.catalogue.CatalogueError.{CatalogueError}
use Rattle.facet_solver_shape.specs.declared.shape.catalogue.CatalogueError.TheVariants.{OutOfRange, NotEarlier, PointerCycle, DuplicateFieldName, DuplicateVariantName}
use Rattle.facet_solver_shape.specs.Catalogues.{HasFault, IsChecked, IsFirstFault, ComesBefore, RepeatsName, number_of}
use Rattle.facet_solver_shape.specs.Names.{Name, name_eq}
use Rattle.facet_solver_shape.specs.Pointers.{NeverEnds, IsEndOf, EveryShapeEnds, EndsBelow, pointee_after}
use Rattle.facet_solver_shape.proofs.FewValues.{some, which}
use Rattle.facet_solver_shape.proofs.Samples.{field, variant, shape, number, struct_of, enum_of}

-- a pointer to the shape at an index
abbrev pointer_to : ℕ → Shape
pointer_to index = shape (codes "P") (kinds.Pointer (Some index))

-- a pointer that leads to nothing
abbrev opaque : Shape
opaque = shape (codes "P") (kinds.Pointer None)

-- one name alone is not repeated
one_name : (a : Name) → ¬ (RepeatsName (a ∷ []))
one_name a r = go r.first r.second r.apart r.at_second
  where
    go : (first second : ℕ) → first < second → ¬ (slice_get (a ∷ []) second ≡ Some r.name)
    go first zero apart at = omega (arith, apart)
    go first (suc n) apart at = cc

-- two names that a test tells apart are not one
two_names : (test : Name → Bool) (a b : Name) → test a ≡ true → test b ≡ false
    → ¬ (RepeatsName (a ∷ b ∷ []))
two_names test a b passes fails r = go r.first r.second r.apart r.at_first r.at_second
  where
    go : (first second : ℕ) → first < second → slice_get (a ∷ b ∷ []) first ≡ Some r.name
        → ¬ (slice_get (a ∷ b ∷ []) second ≡ Some r.name)
    go first zero apart at_first at_second = omega (arith, apart)
    go zero (suc zero) apart at_first at_second =
        let same : a ≡ b = cc in
        false≢true (sym fails ∙ ap test (sym same) ∙ passes)
    go (suc first) (suc zero) apart at_first at_second = omega (arith, apart)
    go first (suc (suc n)) apart at_first at_second = cc

-- whether a name is `a`
abbrev is_a : Name → Bool
is_a name = name_eq name (codes "a")

-- a field of the shape at 3, which one shape alone has not
pub out_of_range_holds : HasFault (struct_of (field (codes "a") 3 ∷ []) ∷ []) (OutOfRange 0)
out_of_range_holds = (0, 3, omega arith, refl, omega arith)

-- a field of the shape at 0, which is there
pub out_of_range_fails : ¬ (HasFault (number ∷ struct_of (field (codes "a") 0 ∷ []) ∷ []) (OutOfRange 1))
out_of_range_fails h = elim (which _ (0 ∷ []) h) [ inl past ↦ omega (arith, past) | inr none ↦ none ]

-- a field of the shape itself
pub not_earlier_holds : HasFault (struct_of (field (codes "a") 0 ∷ []) ∷ []) (NotEarlier 0)
not_earlier_holds = (0, 0, omega arith, refl, (omega arith, omega arith))

-- a field of the shape before it; and a pointer to itself, since pointees need not be earlier
pub not_earlier_fails :
    (¬ (HasFault (number ∷ struct_of (field (codes "a") 0 ∷ []) ∷ []) (NotEarlier 1)))
    × (¬ (HasFault (pointer_to 0 ∷ []) (NotEarlier 0)))
not_earlier_fails = (
  λ h. elim (which _ (0 ∷ []) h) [ inl later ↦ omega (arith, later.0) | inr none ↦ none ],
  λ h. which _ [] h,
)

-- a pointer to itself
pub pointer_cycle_holds : HasFault (pointer_to 0 ∷ []) (PointerCycle 0)
pointer_cycle_holds zero = refl
pointer_cycle_holds (suc n) = pointer_cycle_holds n

-- a pointer to a number, and one that leads to nothing
pub pointer_cycle_fails :
    (¬ (HasFault (pointer_to 1 ∷ number ∷ []) (PointerCycle 0)))
    × (¬ (HasFault (opaque ∷ []) (PointerCycle 0)))
pointer_cycle_fails = (λ h. false≢true (h 2), λ h. false≢true (h 1))

-- two fields `a`
pub duplicate_field_name_holds :
    HasFault (number ∷ struct_of (field (codes "a") 0 ∷ field (codes "a") 0 ∷ []) ∷ []) (DuplicateFieldName 1)
duplicate_field_name_holds = record {
  name = codes "a";
  first = 0;
  second = 1;
  apart = omega arith;
  at_first = refl;
  at_second = refl;
}

-- two variants, each with a field `a`
abbrev with_a : List Variant
with_a =
    variant (codes "V") (field (codes "a") 0 ∷ [])
    ∷ variant (codes "W") (field (codes "a") 0 ∷ []) ∷ []

-- fields `a` and `b`; and `a` once in each of two variants
pub duplicate_field_name_fails :
    (¬ (HasFault (number ∷ struct_of (field (codes "a") 0 ∷ field (codes "b") 0 ∷ []) ∷ []) (DuplicateFieldName 1)))
    × (¬ (HasFault (number ∷ enum_of with_a ∷ []) (DuplicateFieldName 1)))
duplicate_field_name_fails = (
  two_names is_a (codes "a") (codes "b") refl refl,
  λ h. elim (which _ with_a h) [ inl one ↦ one_name _ one | inr (inl one) ↦ one_name _ one | inr (inr none) ↦ none ],
)

-- two variants `V`
pub duplicate_variant_name_holds :
    HasFault (enum_of (variant (codes "V") [] ∷ variant (codes "V") [] ∷ []) ∷ []) (DuplicateVariantName 0)
duplicate_variant_name_holds = record {
  name = codes "V";
  first = 0;
  second = 1;
  apart = omega arith;
  at_first = refl;
  at_second = refl;
}

-- variants `V` and `W`
pub duplicate_variant_name_fails :
    ¬ (HasFault (enum_of (variant (codes "V") [] ∷ variant (codes "W") [] ∷ []) ∷ []) (DuplicateVariantName 0))
duplicate_variant_name_fails = two_names (λ name. name_eq name (codes "V")) _ _ refl refl

-- a number, and a struct with a field of it
abbrev sound : List Shape
sound = number ∷ struct_of (field (codes "a") 0 ∷ []) ∷ []

-- these have no fault
pub checked_holds : IsChecked sound
checked_holds = record { faultless = go }
  where
    go : (e : CatalogueError) → ¬ (HasFault sound e)
    go (OutOfRange zero) h = which _ [] h
    go (OutOfRange (suc zero)) h = out_of_range_fails h
    go (OutOfRange (suc (suc n))) h = h
    go (NotEarlier zero) h = which _ [] h
    go (NotEarlier (suc zero)) h = not_earlier_fails.0 h
    go (NotEarlier (suc (suc n))) h = h
    go (PointerCycle zero) h = false≢true (h 1)
    go (PointerCycle (suc zero)) h = false≢true (h 1)
    go (PointerCycle (suc (suc n))) h = false≢true (h 1)
    go (DuplicateFieldName zero) h = h
    go (DuplicateFieldName (suc zero)) h = one_name _ h
    go (DuplicateFieldName (suc (suc n))) h = h
    go (DuplicateVariantName zero) h = h
    go (DuplicateVariantName (suc zero)) h = h
    go (DuplicateVariantName (suc (suc n))) h = h

-- a struct with a field of itself has a fault
pub checked_fails : ¬ (IsChecked (struct_of (field (codes "a") 0 ∷ []) ∷ []))
checked_fails c = c.faultless (NotEarlier 0) not_earlier_holds

-- of the faults at one index the one of lower number comes first, and those at lower indices before
pub before_holds :
    ComesBefore (OutOfRange 0) (NotEarlier 0) × ComesBefore (DuplicateFieldName 0) (OutOfRange 1)
before_holds = (inr (refl, omega arith), inl (omega arith))

-- no fault comes before itself, or before one of an earlier shape
pub before_fails :
    (¬ (ComesBefore (NotEarlier 0) (NotEarlier 0))) × (¬ (ComesBefore (OutOfRange 1) (NotEarlier 0)))
before_fails = (
  λ h. elim h [ inl index ↦ omega (arith, index) | inr lower ↦ omega (arith, lower.1) ],
  λ h. elim h [ inl index ↦ omega (arith, index) | inr lower ↦ omega (arith, lower.1) ],
)

-- a struct with a field of the shape at 3 and two fields `a`
abbrev pub unsound : List Shape
unsound = struct_of (field (codes "a") 3 ∷ field (codes "a") 3 ∷ []) ∷ []

-- numbers begin at one
numbered : (e : CatalogueError) → 0 < number_of e
numbered (OutOfRange index) = omega arith
numbered (NotEarlier index) = omega arith
numbered (PointerCycle index) = omega arith
numbered (DuplicateFieldName index) = omega arith
numbered (DuplicateVariantName index) = omega arith

-- the index out of range comes first
pub first_fault_holds : IsFirstFault unsound (OutOfRange 0)
first_fault_holds = record {
  present = some _ (3 ∷ 3 ∷ []) (inl (omega arith));
  first = go;
}
  where
    go : (d : CatalogueError) → ComesBefore d (OutOfRange 0) → ¬ (HasFault unsound d)
    go d before h = elim before [
      | inl index ↦ omega (arith, index)
      | inr lower ↦ omega (arith, lower.1, numbered d)
    ]

-- the names come after it
pub first_fault_fails : ¬ (IsFirstFault unsound (DuplicateFieldName 0))
first_fault_fails f =
    f.first (OutOfRange 0) (inr (refl, omega arith)) (some _ (3 ∷ 3 ∷ []) (inl (omega arith)))

-- a pointer to a number ends at it
pub end_holds : IsEndOf (pointer_to 1 ∷ number ∷ []) 0 1
end_holds = record { steps = 1; reached = refl; last = refl }

-- but not at itself
pub end_fails : ¬ (IsEndOf (pointer_to 1 ∷ number ∷ []) 0 0)
end_fails e = let last = e.last in cc

-- a pointer to a number, and the number, have ends
pub every_end_holds : EveryShapeEnds (pointer_to 1 ∷ number ∷ [])
every_end_holds zero = record { steps = 1; reached = refl; last = refl }
every_end_holds (suc zero) = record { steps = 0; reached = refl; last = refl }
every_end_holds (suc (suc n)) = record { steps = 0; reached = refl; last = refl }

-- a pointer to itself has none
pub every_end_fails : ¬ (EveryShapeEnds (pointer_to 0 ∷ []))
every_end_fails ends = let last = (ends 0).last in cc
