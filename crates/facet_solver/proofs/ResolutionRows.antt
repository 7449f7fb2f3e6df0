-- What choices resolve to, and which schemas are built so: the definitions, row by row.
use Rattle.std.proofs.Common.{◌≡◌, ℕ, zero, suc, ◌<◌, List, [], ◌∷◌, Option, Some, None, slice_get, length, Contains, refl, sym, ap, ◌∙◌, arith, codes}
use Rattle.std.specs.FinMap as finite
use Rattle.std.specs.List.{AllZip}
use Rattle.facet_solver_shape.specs.Fields.{FieldView, key_of_field}
use Rattle.facet_solver_shape.specs.Keys.{key_cmp}
use Rattle.facet_solver_shape.specs.Representation.{flattened}
use Rattle.facet_solver_shape.specs.Resolved.{Resolved, nothing, with_field}
use Rattle.facet_solver_shape.specs.declared.resolution.key.FieldCategory.TheVariants.{Attribute}
use Rattle.facet_solver_shape.proofs.Keys.{key_cmp_total}
use Rattle.facet_solver_shape.proofs.Samples.{seen_field}
use Rattle.facet_solver.specs.build.Choice.{Enumerates, GoesByName, HasNoDuplicates, IsResolution, resolution_from}
use Rattle.facet_solver.specs.build.Count.{IsCountOf, count_fields, count_fields_step, count_of_root, count_within}
use Rattle.facet_solver.specs.build.Emissions.{a_field, emit_plain, emit_regular, field_and_paths, regular_field}
use Rattle.facet_solver.specs.build.Nested.{with_key_paths}
use Rattle.facet_solver.specs.build.Walk.{walk_content, walk_fields, walk_fields_step, walk_root, walk_root_variant, walk_within}
use Rattle.facet_solver.specs.declared.build.format.Format.TheVariants.{Flat as FlatFormat}
use Rattle.facet_solver.specs.schema.Schema.{IsBuilt, IsOwnBuild, SchemaView}
use Rattle.facet_solver.proofs.ChoiceRows.{both, choice_holds, lists_choices_holds}
use Rattle.facet_solver.proofs.SampleBuilds.{emissions, emitted_by, flat, two_variants, twice_a}

-- what the first variant resolves to, and the second
abbrev pub of_first : Resolved
of_first = resolution_from (emissions (flat two_variants) 1 (0 ∷ []))

abbrev pub of_second : Resolved
of_second = resolution_from (emissions (flat two_variants) 1 (1 ∷ []))

-- a variant with one field emits no field twice
one_field : (n : ℕ) → n < 2 → HasNoDuplicates (emissions (flat two_variants) 1 (n ∷ []))
unfolding walk_root walk_root_variant walk_content walk_fields walk_within walk_fields_step emit_plain emit_regular regular_field field_and_paths
one_field zero below f g d = go d.first_at d.second_at d.in_order d.first_is d.second_is
  where
    go : (i j : ℕ) → i < j → slice_get (emissions (flat two_variants) 1 (0 ∷ [])) i ≡ Some (a_field f)
        → ¬ (slice_get (emissions (flat two_variants) 1 (0 ∷ [])) j ≡ Some (a_field g))
    go zero j less first second = cc
    go (suc zero) zero less first second = omega (arith, less)
    go (suc zero) (suc zero) less first second = omega (arith, less)
    go (suc zero) (suc (suc zero)) less first second = cc
    go (suc zero) (suc (suc (suc j))) less first second = cc
    go (suc (suc zero)) j less first second = cc
    go (suc (suc (suc i))) j less first second = cc
one_field (suc zero) below f g d = go d.first_at d.second_at d.in_order d.first_is d.second_is
  where
    go : (i j : ℕ) → i < j → slice_get (emissions (flat two_variants) 1 (1 ∷ [])) i ≡ Some (a_field f)
        → ¬ (slice_get (emissions (flat two_variants) 1 (1 ∷ [])) j ≡ Some (a_field g))
    go zero j less first second = cc
    go (suc zero) zero less first second = omega (arith, less)
    go (suc zero) (suc zero) less first second = omega (arith, less)
    go (suc zero) (suc (suc zero)) less first second = cc
    go (suc zero) (suc (suc (suc j))) less first second = cc
    go (suc (suc zero)) j less first second = cc
    go (suc (suc (suc i))) j less first second = cc
one_field (suc (suc n)) below f g d = omega (arith, below)

-- each variant resolves to what its emissions put together
pub resolution_holds :
    IsResolution (flat two_variants) 1 (0 ∷ []) of_first × IsResolution (flat two_variants) 1 (1 ∷ []) of_second
unfolding walk_root walk_root_variant walk_content walk_fields walk_within walk_fields_step emit_plain emit_regular regular_field field_and_paths
resolution_holds = (
  record { emissions = _; emitted = refl; put_together = refl; no_duplicates = one_field 0 (omega arith) },
  record { emissions = _; emitted = refl; put_together = refl; no_duplicates = one_field 1 (omega arith) },
)

-- not to nothing, since the variant is selected; and a choice with a key twice to nothing at all
pub resolution_fails :
    (¬ (IsResolution (flat two_variants) 1 (0 ∷ []) nothing))
    × ((r : Resolved) → ¬ (IsResolution (flat twice_a) 2 [] r))
unfolding resolution_from with_key_paths walk_root walk_root_variant walk_content walk_fields walk_within walk_fields_step emit_plain emit_regular regular_field field_and_paths
resolution_fails = (
  λ r.
      let same : nothing ≡ of_first = r.put_together ∙ sym (ap resolution_from (ap emitted_by r.emitted)) in
      let selected = ap (λ r. length r.selections) same in
      omega (arith, selected),
  λ r h. h.no_duplicates _ _ (record {
    first_at = 0;
    second_at = 2;
    in_order = omega arith;
    first_is = sym (ap (λ es. slice_get es 0) (ap emitted_by h.emitted));
    second_is = sym (ap (λ es. slice_get es 2) (ap emitted_by h.emitted));
    same_key = refl;
  }),
)

-- one resolution for each choice
pub enumerates_holds : Enumerates (flat two_variants) 1 (of_first ∷ of_second ∷ [])
enumerates_holds = record {
  choices = both;
  listed = lists_choices_holds;
  resolved = (resolution_holds.0, (resolution_holds.1, tt));
}

-- none, where there are choices
pub enumerates_fails : ¬ (Enumerates (flat two_variants) 1 [])
enumerates_fails e = go e.choices e.resolved (e.listed.complete (0 ∷ []) choice_holds.0)
  where
    go : (choices : List (List ℕ)) → AllZip (IsResolution (flat two_variants) 1) choices []
        → ¬ (Contains choices (0 ∷ []))
    go [] resolved has = let within = has.1 in omega (arith, within)
    go (c ∷ choices) resolved has = resolved

-- a schema of a root with these resolutions
abbrev pub schema : List Resolved → SchemaView
schema resolutions =
    record { build = flat two_variants; root = 1; resolutions = resolutions }

-- a schema of both resolutions is built
pub built_holds :
    IsBuilt (flat two_variants) 1 (schema (of_first ∷ of_second ∷ []))
    × IsOwnBuild (schema (of_first ∷ of_second ∷ []))
unfolding count_of_root count_fields count_within count_fields_step
built_holds = (
  record { made_by = refl; has_root = refl; enumerates = enumerates_holds; counted = refl },
  record { made_by = refl; has_root = refl; enumerates = enumerates_holds; counted = refl },
)

-- not without resolutions, and not of another root
pub built_fails :
    (¬ (IsBuilt (flat two_variants) 1 (schema [])))
    × (¬ (IsOwnBuild (schema [])))
    × (¬ (IsBuilt (flat two_variants) 0 (schema (of_first ∷ of_second ∷ []))))
built_fails = (
  λ b. enumerates_fails b.enumerates,
  λ b. enumerates_fails b.enumerates,
  λ b. let same = b.has_root in omega (arith, same),
)

-- the two variants are two choices, in whichever format
pub count_holds : IsCountOf two_variants 1 (Some flattened) (Some 2)
unfolding count_of_root count_fields count_within count_fields_step
count_holds format = refl

-- not three, and not more than can be counted
pub count_fails :
    (¬ (IsCountOf two_variants 1 (Some flattened) (Some 3)))
    × (¬ (IsCountOf two_variants 1 (Some flattened) None))
unfolding count_of_root count_fields count_within count_fields_step
count_fails =
    (λ c. let same = ap number (c FlatFormat) in omega (arith, same), λ c. let same = c FlatFormat in cc)
  where
    number : Option ℕ → ℕ
    number None = 0
    number (Some n) = n

-- without fields, and with a flat field, a resolution goes by names
pub by_name_holds : GoesByName nothing
by_name_holds k f found = let none = finite.get-empty {X = FieldView} key_cmp k in cc

-- an attribute stands under its category
pub by_name_fails : ¬ (GoesByName (with_field nothing (seen_field Attribute (codes "a"))))
by_name_fails goes =
    let f = seen_field Attribute (codes "a") in
    let found = finite.get-insert key_cmp_total finite.empty (key_of_field f) f (key_of_field f) in
    let dom = ap (λ k. k.dom) (goes (key_of_field f) f found) in
    cc
