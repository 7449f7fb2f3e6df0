-- What keys tell of choices and resolutions: the definitions, row by row.
use Rattle.std.proofs.Common.{◌≡◌, ℕ, Bool, true, false, cond, ◌||◌, List, [], ◌∷◌, Contains, find, is_some, refl, sym, ap, ap₂, subst, ◌∙◌, inl, inr, arith, codes, nat_eq}
use Rattle.std.proofs.lemmas.Bool.{false≢true}
use Rattle.std.specs.FinMap as finite
use Rattle.std.specs.List.{list_all}
use Rattle.facet_solver_shape.specs.Fields.{FieldView, matches}
use Rattle.facet_solver_shape.specs.Keys.{Key, flat_key}
use Rattle.facet_solver_shape.specs.Names.{name_eq}
use Rattle.facet_solver_shape.specs.Paths.{by_field, by_variant}
use Rattle.facet_solver_shape.specs.declared.resolution.key.FieldCategory.TheVariants.{Flat}
use Rattle.facet_solver_shape.proofs.FewValues.{which_is}
use Rattle.facet_solver_shape.proofs.Samples.{field}
use Rattle.facet_solver.specs.Resolutions.{has_key}
use Rattle.facet_solver.specs.build.Choice.{resolution_from}
use Rattle.facet_solver.specs.build.Emissions.{emit_plain, emit_regular, field_and_paths, regular_field}
use Rattle.facet_solver.specs.build.Nested.{with_key_paths}
use Rattle.facet_solver.specs.build.Walk.{walk_content, walk_fields, walk_fields_step, walk_root, walk_root_variant, walk_within}
use Rattle.facet_solver.specs.solver.Failure.{is_met}
use Rattle.facet_solver.specs.solver.Report.{is_viable}
use Rattle.facet_solver.specs.solver.Run.{FindsToldChoices, see_key}
use Rattle.facet_solver.specs.solver.State.{new_solver}
use Rattle.facet_solver.specs.solver.Told.{ChoiceHasKey, HasAllKnown, HaveSameKeys, LeavesSome, TellsChoice}
use Rattle.facet_solver.proofs.ChoiceRows.{both, lists_choices_holds}
use Rattle.facet_solver.proofs.ResolutionRows.{of_first, of_second, resolution_holds, schema}
use Rattle.facet_solver.proofs.SampleBuilds.{flat, two_variants}
use Rattle.facet_solver.proofs.SampleResolutions.{entry, only_a, only_b, two, value_of_one, values_of}

-- the keys of two names
abbrev key_a : Key
key_a = flat_key (codes "a")

abbrev key_b : Key
key_b = flat_key (codes "b")

-- the only field of the first variant
abbrev field_a : FieldView
field_a = record {
  name = codes "a";
  path = by_variant [] (codes "V") ∷ by_field (codes "a") ∷ [];
  is_required = true;
  shape = 0;
  field = field (codes "a") 0;
  category = Flat;
}

fields_of_first : finite.values of_first.fields ≡ field_a ∷ []
unfolding resolution_from with_key_paths walk_root walk_root_variant walk_content walk_fields walk_within walk_fields_step emit_plain emit_regular regular_field field_and_paths
fields_of_first = value_of_one field_a

-- the first variant has the key `a`, and not the key `b`
first_has : (has_key key_a of_first ≡ true) × (has_key key_b of_first ≡ false)
first_has = (
  ap (λ fs. is_some (find (matches key_a) fs)) fields_of_first,
  ap (λ fs. is_some (find (matches key_b) fs)) fields_of_first,
)

-- it is viable once `a` is seen, and not before
first_viable : (is_viable (key_a ∷ []) of_first ≡ true) × (is_viable [] of_first ≡ false)
first_viable =
    (ap (list_all (is_met (key_a ∷ []))) fields_of_first, ap (list_all (is_met [])) fields_of_first)

-- a choice has the key of its field
pub choice_has_key_holds : ChoiceHasKey (flat two_variants) 1 (0 ∷ []) key_a
choice_has_key_holds =
    record { resolution = of_first; of_choice = resolution_holds.0; has = first_has.0 }

-- what is no choice has no key
pub choice_has_key_fails : (key : Key) → ¬ (ChoiceHasKey (flat two_variants) 1 [] key)
unfolding walk_root walk_root_variant walk_content walk_fields walk_within walk_fields_step emit_plain emit_regular regular_field field_and_paths
choice_has_key_fails key h = let none = h.of_choice.emitted in cc

-- `a` tells the first variant: it is all that it requires, and it has it
pub tells_choice_holds : TellsChoice (flat two_variants) 1 (0 ∷ []) (key_a ∷ []) of_first
tells_choice_holds = record {
  resolved = resolution_holds.0;
  has_known = λ key in_keys other h. elim (which_is (key_a ∷ []) key in_keys) [
    | inl same ↦ subst (λ k. has_key k of_first ≡ true) same first_has.0
    | inr none ↦ absurd none
  ];
  has_required = first_viable.0;
}

-- no key tells nothing of what is required
pub tells_choice_fails : ¬ (TellsChoice (flat two_variants) 1 (0 ∷ []) [] of_first)
tells_choice_fails t = false≢true (sym first_viable.1 ∙ t.has_required)

-- what the keys that are known of `a` ask of a resolution, by the fields of two
abbrev all_known : List FieldView → List FieldView → List FieldView → Bool
all_known first second asked =
    list_all (λ key. is_some (find (matches key) asked))
    (cond (is_some (find (matches key_a) first) || (is_some (find (matches key_a) second) || false)) (key_a ∷ []) [])

-- the first of two resolutions has `a`, which alone is known
pub all_known_holds : HasAllKnown (two only_a only_b) (key_a ∷ []) 0 only_a
all_known_holds = record {
  present = refl;
  has_known = ap₂ (λ fs gs. all_known fs gs fs) (values_of (entry (codes "a") ∷ []) tt) (values_of (entry (codes "b") ∷ []) tt);
}

-- the second has it not; and there is no third
pub all_known_fails :
    (¬ (HasAllKnown (two only_a only_b) (key_a ∷ []) 1 only_b))
    × (¬ (HasAllKnown (two only_a only_b) (key_a ∷ []) 2 only_a))
all_known_fails = (
  λ h. false≢true (sym (ap₂ (λ fs gs. all_known fs gs gs) (values_of (entry (codes "a") ∷ []) tt) (values_of (entry (codes "b") ∷ []) tt)) ∙ h.has_known),
  λ h. let present = h.present in cc,
)

-- the same keys in another order
pub same_keys_holds : HaveSameKeys (key_a ∷ key_b ∷ []) (key_b ∷ key_a ∷ [])
same_keys_holds = record { in_others = there; in_keys = back }
  where
    there : (key : Key) → Contains (key_a ∷ key_b ∷ []) key → Contains (key_b ∷ key_a ∷ []) key
    there key h = elim (which_is (key_a ∷ key_b ∷ []) key h) [
      | inl same ↦ (1, omega arith, same)
      | inr (inl same) ↦ (0, omega arith, same)
      | inr (inr none) ↦ absurd none
    ]

    back : (key : Key) → Contains (key_b ∷ key_a ∷ []) key → Contains (key_a ∷ key_b ∷ []) key
    back key h = elim (which_is (key_b ∷ key_a ∷ []) key h) [
      | inl same ↦ (1, omega arith, same)
      | inr (inl same) ↦ (0, omega arith, same)
      | inr (inr none) ↦ absurd none
    ]

-- one key more
pub same_keys_fails : ¬ (HaveSameKeys (key_a ∷ []) (key_a ∷ key_b ∷ []))
same_keys_fails h =
    elim (which_is (key_a ∷ []) key_b (h.in_keys key_b (1, omega arith, refl))) [
      | inl same ↦ false≢true (ap (λ k. name_eq k.name (codes "b")) same)
      | inr none ↦ none
    ]

-- one of two is left; but none comes to what had none
pub leaves_some_rows :
    LeavesSome {A = ℕ} (0 ∷ 1 ∷ []) (1 ∷ [])
    × (¬ (LeavesSome {A = ℕ} [] (0 ∷ [])))
leaves_some_rows =
    (record { stays = λ i. nat_eq i 1; left = refl }, λ l. let more = l.left in cc)

-- a solver that is told `a` and has no candidate left doesn't find the first variant
pub finds_told_fails :
    ¬ (FindsToldChoices (see_key key_a ∷ []) (new_solver (schema (of_first ∷ of_second ∷ [])))
    (record { schema = schema (of_first ∷ of_second ∷ []); candidates = []; seen = key_a ∷ [] }))
finds_told_fails f =
    let found = f.ends [] (key_a ∷ []) refl refl both lists_choices_holds 0 (0 ∷ []) refl of_first tells_choice_holds in
    let at = found.at_place in
    cc

-- a root that the catalogue lacks has no choice to be found
pub finds_told_holds :
    FindsToldChoices []
    (new_solver (record { build = flat two_variants; root = 9; resolutions = [] }))
    (new_solver (record { build = flat two_variants; root = 9; resolutions = [] }))
unfolding walk_root
finds_told_holds = record {
  ends = λ earlier keys before calls choices listed index choice at r tells.
      let none = tells.resolved.emitted in
      let no : ⊥ = cc in
      absurd no;
}
