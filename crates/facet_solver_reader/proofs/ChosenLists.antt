-- A list that some choice has is one of the catalogue.
use Rattle.std.proofs.Common.{◌≡◌, inl, inr, refl, ap, ⊎_elim, ℕ, ◌<◌, ◌≤◌, arith, List, [], ◌∷◌, length, true, false, Option, Some, None}
use Rattle.std.specs.List.{Any}
use Rattle.std.specs.Option.{option_and_then, option_map}
use Rattle.std.proofs.lemmas.Bool.{cases_lt, false≢true}
use Rattle.std.proofs.lemmas.Option.{slice_get_past, slice_get_within}
use Rattle.facet_solver_shape.specs.declared.shape.Variant.{Variant}
use Rattle.facet_solver_shape.specs.Catalogues.{Catalogue, kind_of}
use Rattle.facet_solver_reader.specs.EveryList.{IsChosen}
use Rattle.facet_solver_reader.specs.Known.{ChoosesAt, HasChoice}
use Rattle.facet_solver_reader.specs.Parts.{ListId, Part, of_struct, of_enum, of_joined, of_branch, of_fields}
use Rattle.facet_solver_reader.specs.Slots.{IsOfCatalogue}
use Rattle.facet_solver_reader.specs.Types.{branches_from, joined_from, one_of, parts_of, parts_of_branch, parts_of_fields, parts_of_struct, repr_at, variant_at, variants_at, variants_of_kind}
use Rattle.facet_solver_reader.proofs.Knowledge.{choice_of_each, choice_of_selection}
use Rattle.facet_solver_reader.proofs.Lists.{choice_of_list}
use Rattle.facet_solver_reader.proofs.Quantifiers.{any_of_none}

module _ (shapes : Catalogue) where
  -- beyond the catalogue there is no variant
  no_variants : (s : ℕ) → length shapes ≤ s → variants_at shapes s ≡ []
  no_variants s past = ap (λ o. variants_of_kind (kind_of o)) (slice_get_past shapes s past)

  no_variant : (s k : ℕ) (v : Variant) → length shapes ≤ s → variant_at shapes s k ≡ Some v → ⊥
  no_variant s k v past at =
      let within = slice_get_within (variants_at shapes s) k v at in
      omega (arith, within, ap (λ (vs : List Variant). length vs) (no_variants s past))

  -- a selection of no branches has no choice
  no_branches : (id : ListId) → parts_of shapes id ≡ Some (one_of [] ∷ []) → IsChosen shapes id → ⊥
  no_branches id e c =
      let each = (choice_of_each (parts_of shapes) (one_of [] ∷ [])).0 ((choice_of_list (parts_of shapes) id (one_of [] ∷ []) e).1 c) in
      let h : HasChoice (ChoosesAt (parts_of shapes) (one_of [])) = each 0 (one_of []) (omega arith) in
      ⊎_elim (λ (t : false ≡ true). false≢true t)
      (λ (a : Any (λ q. IsChosen shapes q) []). any_of_none (λ q. IsChosen shapes q) a)
      ((choice_of_selection (parts_of shapes) (record { optional = false; branches = [] })).0 h)

  -- the variant of a list that has parts
  some_variant : (f : Variant → Option (List Part)) (o : Option Variant) (ps : List Part)
      → option_and_then f o ≡ Some ps → (v : Variant) × (o ≡ Some v)
  some_variant f None ps e = absurd (cc)
  some_variant f (Some v) ps e = (v, refl)

  some_fields : (f : Variant → List Part) (o : Option Variant) (ps : List Part)
      → option_map f o ≡ Some ps → (v : Variant) × (o ≡ Some v)
  some_fields f None ps e = absurd (cc)
  some_fields f (Some v) ps e = (v, refl)

  of_variant : (s k : ℕ) (v : Variant) → variant_at shapes s k ≡ Some v
      → (s < length shapes) × (k < length (variants_at shapes s))
  of_variant s k v at = (
    elim (cases_lt s (length shapes)) [
      | inl less ↦ less
      | inr past ↦ absurd (no_variant s k v past at)
    ],
    slice_get_within (variants_at shapes s) k v at,
  )

  pub chosen_of_catalogue : (id : ListId) → IsChosen shapes id → IsOfCatalogue shapes id
  chosen_of_catalogue (of_struct s) c = elim (cases_lt s (length shapes)) [
    | inl less ↦ less
    | inr past ↦
        let none : parts_of shapes (of_struct s) ≡ None = ap (λ o. parts_of_struct shapes (kind_of o)) (slice_get_past shapes s past) in
        let some : parts_of shapes (of_struct s) ≡ Some c.chooses.parts = c.chooses.parts_are in
        absurd (cc)
  ]
  chosen_of_catalogue (of_enum s) c = elim (cases_lt s (length shapes)) [
    | inl less ↦ less
    | inr past ↦ absurd (no_branches (of_enum s) (ap (λ vs. Some (one_of (branches_from s 0 vs) ∷ [])) (no_variants s past)) c)
  ]
  chosen_of_catalogue (of_joined s) c = elim (cases_lt s (length shapes)) [
    | inl less ↦ less
    | inr past ↦ absurd (no_branches (of_joined s) (ap (λ vs. Some (one_of (joined_from shapes s 0 vs) ∷ [])) (no_variants s past)) c)
  ]
  chosen_of_catalogue (of_branch s k) c =
      let v = some_variant (parts_of_branch shapes s k (repr_at shapes s)) (variant_at shapes s k) c.chooses.parts c.chooses.parts_are in
      of_variant s k v.0 v.1
  chosen_of_catalogue (of_fields s k) c =
      let v = some_fields (λ v. parts_of_fields shapes v.fields.items) (variant_at shapes s k) c.chooses.parts c.chooses.parts_are in
      of_variant s k v.0 v.1
