-- Which fields that a walk emits have a duplicate key: the definitions, row by row.
use Rattle.std.proofs.Common.{◌≡◌, ℕ, zero, suc, ◌<◌, Bool, false, [], ◌∷◌, Option, Some, None, length, slice_get, refl, sym, ap, ◌∙◌, arith, codes}
use Rattle.std.proofs.lemmas.Bool.{false≢true}
use Rattle.facet_solver_shape.specs.Fields.{FieldView, key_of_field}
use Rattle.facet_solver_shape.specs.Names.{Name, name_eq}
use Rattle.facet_solver_shape.specs.Paths.{by_field}
use Rattle.facet_solver_shape.specs.declared.resolution.error.DuplicateFieldError.{DuplicateFieldError}
use Rattle.facet_solver_shape.specs.declared.resolution.error.SchemaError.TheVariants.{DuplicateField, OutOfMemory}
use Rattle.facet_solver_shape.specs.declared.resolution.key.FieldCategory.TheVariants.{Flat, Attribute, Element}
use Rattle.facet_solver_shape.proofs.Samples.{seen_field}
use Rattle.facet_solver.specs.build.Choice.{AreDuplicates, HasNoDuplicates, IsChoiceDuplicate, IsRefusal}
use Rattle.facet_solver.specs.build.Emissions.{Emission, a_field, emit_plain, emit_regular, field_and_paths, regular_field}
use Rattle.facet_solver.specs.build.Place.{Path}
use Rattle.facet_solver.specs.build.Walk.{walk_content, walk_fields, walk_fields_step, walk_root, walk_root_variant, walk_within}
use Rattle.facet_solver.proofs.SampleBuilds.{emissions, emitted_by, flat, two_variants, twice_a}

-- a flat field `a`, and one `b`
abbrev a : FieldView
a = seen_field Flat (codes "a")

abbrev b : FieldView
b = seen_field Flat (codes "b")

-- whether a field `b` is emitted
abbrev is_b : Option Emission → Bool
is_b (Some (a_field f)) = name_eq f.name (codes "b")
is_b _ = false

-- `a` twice
pub duplicates_holds : AreDuplicates (a_field a ∷ a_field a ∷ []) a a
duplicates_holds = record {
  first_at = 0;
  second_at = 1;
  in_order = omega arith;
  first_is = refl;
  second_is = refl;
  same_key = refl;
}

-- `a` alone; and `a` beside `b`
pub duplicates_fails :
    ((f g : FieldView) → ¬ (AreDuplicates (a_field a ∷ []) f g))
    × ((f g : FieldView) → ¬ (AreDuplicates (a_field a ∷ a_field b ∷ []) f g))
duplicates_fails = (
  λ f g d. alone f g d.first_at d.second_at d.in_order d.second_is,
  λ f g d. beside f g d.first_at d.second_at d.in_order d.first_is d.second_is d.same_key,
)
  where
    alone : (f g : FieldView) (i j : ℕ) → i < j → ¬ (slice_get (a_field a ∷ []) j ≡ Some (a_field g))
    alone f g i zero less is = omega (arith, less)
    alone f g i (suc j) less is = cc

    beside : (f g : FieldView) (i j : ℕ) → i < j
        → slice_get (a_field a ∷ a_field b ∷ []) i ≡ Some (a_field f)
        → slice_get (a_field a ∷ a_field b ∷ []) j ≡ Some (a_field g)
        → ¬ (key_of_field f ≡ key_of_field g)
    beside f g i zero less first second same = omega (arith, less)
    beside f g zero (suc zero) less first second same =
        false≢true (ap is_b first ∙ ap (λ k. name_eq k.name (codes "b")) same ∙ sym (ap is_b second))
    beside f g (suc i) (suc zero) less first second same = omega (arith, less)
    beside f g i (suc (suc j)) less first second same = cc

-- an attribute and an element of one name
pub other_category_fails :
    ¬ (key_of_field (seen_field Attribute (codes "a")) ≡ key_of_field (seen_field Element (codes "a")))
other_category_fails same = let dom = ap (λ k. k.dom) same in cc

-- `a` and `b`; and not `a` twice
pub no_duplicates_rows :
    HasNoDuplicates (a_field a ∷ a_field b ∷ []) × (¬ (HasNoDuplicates (a_field a ∷ a_field a ∷ [])))
no_duplicates_rows = (duplicates_fails.1, λ none. none a a duplicates_holds)

-- `a` beside a flattened struct with `a`
pub choice_duplicate_holds :
    IsChoiceDuplicate (flat twice_a) 2 (codes "a") (by_field (codes "a") ∷ []) (by_field (codes "f") ∷ by_field (codes "a") ∷ [])
unfolding walk_root walk_root_variant walk_content walk_fields walk_within walk_fields_step emit_plain emit_regular regular_field field_and_paths
choice_duplicate_holds = record {
  choice = [];
  emissions = emissions (flat twice_a) 2 [];
  emitted = refl;
  first = _;
  second = _;
  duplicates = record {
    first_at = 0;
    second_at = 2;
    in_order = omega arith;
    first_is = refl;
    second_is = refl;
    same_key = refl;
  };
  same_name = refl;
  first_is = refl;
  second_is = refl;
}

-- a number has no field, so none twice
pub choice_duplicate_fails :
    (name : Name) (first second : Path) → ¬ (IsChoiceDuplicate (flat two_variants) 0 name first second)
unfolding walk_root
choice_duplicate_fails name first second d =
    none (ap (λ es. slice_get es d.duplicates.first_at) (ap emitted_by d.emitted) ∙ d.duplicates.first_is)
  where
    none : {f : FieldView} → ¬ (None ≡ Some (a_field f))
    none is = cc

-- the path of a field that is emitted, and its name
abbrev path_in : Option Emission → Path
path_in (Some (a_field f)) = f.path
path_in _ = []

abbrev name_in : Option Emission → Name
name_in (Some (a_field f)) = f.name
name_in _ = []

-- the path of the struct's own `a`, and that of the flattened one
abbrev own_path : Path
own_path = by_field (codes "a") ∷ []

abbrev inner_path : Path
inner_path = by_field (codes "f") ∷ by_field (codes "a") ∷ []

-- the two that have a duplicate key there stand at these paths, in this order
only_duplicate : (f g : FieldView) (i j : ℕ) → i < j
    → slice_get (emissions (flat twice_a) 2 []) i ≡ Some (a_field f)
    → slice_get (emissions (flat twice_a) 2 []) j ≡ Some (a_field g)
    → (own_path ≡ f.path) × (inner_path ≡ g.path) × (codes "a" ≡ g.name)
unfolding walk_root walk_root_variant walk_content walk_fields walk_within walk_fields_step emit_plain emit_regular regular_field field_and_paths
only_duplicate f g i zero less first second = let no : ⊥ = omega (arith, less) in absurd no
only_duplicate f g zero (suc zero) less first second = let no : ⊥ = cc in absurd no
only_duplicate f g zero (suc (suc zero)) less first second =
    (ap path_in first, ap path_in second, ap name_in second)
only_duplicate f g zero (suc (suc (suc zero))) less first second = let no : ⊥ = cc in absurd no
only_duplicate f g zero (suc (suc (suc (suc j)))) less first second = let no : ⊥ = cc in absurd no
only_duplicate f g (suc zero) (suc j) less first second = let no : ⊥ = cc in absurd no
only_duplicate f g (suc (suc zero)) (suc zero) less first second =
    let no : ⊥ = omega (arith, less) in absurd no
only_duplicate f g (suc (suc zero)) (suc (suc zero)) less first second =
    let no : ⊥ = omega (arith, less) in absurd no
only_duplicate f g (suc (suc zero)) (suc (suc (suc zero))) less first second =
    let no : ⊥ = cc in absurd no
only_duplicate f g (suc (suc zero)) (suc (suc (suc (suc j)))) less first second =
    let no : ⊥ = cc in absurd no
only_duplicate f g (suc (suc (suc zero))) (suc j) less first second = let no : ⊥ = cc in absurd no
only_duplicate f g (suc (suc (suc (suc i)))) (suc j) less first second = let no : ⊥ = cc in absurd no

-- so in no other order, at no other path, and under no other name
pub other_duplicates_fail :
    (¬ (IsChoiceDuplicate (flat twice_a) 2 (codes "a") inner_path own_path))
    × (¬ (IsChoiceDuplicate (flat twice_a) 2 (codes "a") own_path own_path))
    × (¬ (IsChoiceDuplicate (flat twice_a) 2 (codes "b") own_path inner_path))
unfolding walk_root walk_root_variant walk_content walk_fields walk_within walk_fields_step emit_plain emit_regular regular_field field_and_paths
other_duplicates_fail = (
  λ d. let long = ap length (d.first_is ∙ sym (told (codes "a") inner_path own_path d).0) in omega (arith, long),
  λ d. let short = ap length (d.second_is ∙ sym (told (codes "a") own_path own_path d).1) in omega (arith, short),
  λ d. false≢true (sym (ap (λ x. name_eq x (codes "b")) (d.same_name ∙ sym (told (codes "b") own_path inner_path d).2))),
)
  where
    told : (name : Name) (p q : Path) (d : IsChoiceDuplicate (flat twice_a) 2 name p q)
        → (own_path ≡ d.first.path) × (inner_path ≡ d.second.path) × (codes "a" ≡ d.second.name)
    told name p q d =
        let same = ap emitted_by d.emitted in
        only_duplicate d.first d.second d.duplicates.first_at d.duplicates.second_at d.duplicates.in_order
        (ap (λ es. slice_get es d.duplicates.first_at) same ∙ d.duplicates.first_is)
        (ap (λ es. slice_get es d.duplicates.second_at) same ∙ d.duplicates.second_is)

-- out of memory may come at any time, and a duplicate key where there is one
pub refusal_holds :
    IsRefusal (flat two_variants) 0 OutOfMemory
    × ((d : DuplicateFieldError) → d.field_name.now ≡ codes "a" → d.first_path ≡ by_field (codes "a") ∷ []
    → d.second_path ≡ by_field (codes "f") ∷ by_field (codes "a") ∷ [] → IsRefusal (flat twice_a) 2 (DuplicateField d))
refusal_holds = (tt, λ d name first second. rw (name, first, second) choice_duplicate_holds)

-- no duplicate key of a number
pub refusal_fails : (d : DuplicateFieldError) → ¬ (IsRefusal (flat two_variants) 0 (DuplicateField d))
refusal_fails d = choice_duplicate_fails _ _ _
