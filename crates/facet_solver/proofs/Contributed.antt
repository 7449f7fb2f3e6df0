-- What a table says that structs contribute: what contributes catch-alls alone emits them alone,
-- and what contributes no choices has none.
use Rattle.std.specs.Prelude.{◌||◌, if◌then◌else◌}
use Rattle.std.proofs.Common.{◌≡◌, ◌<◌, ◌≤◌, ℕ, zero, suc, List, [], ◌∷◌, Some, Bool, true, false, refl, sym, ap, ◌∙◌, subst, slice_get, length, arith}
use Rattle.facet_solver_shape.specs.Catalogues.{FieldsBelow, NamesEarlier}
use Rattle.facet_solver_shape.specs.declared.resolution.key.FieldCategory.{FieldCategory}
use Rattle.facet_solver_shape.specs.declared.resolution.key.FieldCategory.TheVariants.{Flat, Attribute, Element, Text, Tag, Elements}
use Rattle.facet_solver_shape.specs.declared.shape.Field.{Field}
use Rattle.facet_solver_shape.specs.declared.shape.ShapeKind.{ShapeKind}
use Rattle.facet_solver_shape.specs.declared.shape.ShapeKind.TheVariants.{Enum, Struct}
use Rattle.facet_solver.specs.declared.build.contribution.Contribution.{Contribution}
use Rattle.facet_solver.specs.declared.build.contribution.Contribution.TheVariants.{CatchAlls, Emissions, Choices as ContributesChoices}
use Rattle.facet_solver_shape.specs.declared.role.Target.{Target}
use Rattle.facet_solver.specs.build.Contribution.{AreCatchAlls, AreContributions, at, both, contribution_of_field, contribution_of_fields, contribution_of_kind, contribution_of_role, has, has_last, union}
use Rattle.facet_solver.specs.build.Build.{Build, kind_at}
use Rattle.facet_solver.specs.build.Content.{struct_fields}
use Rattle.facet_solver.specs.build.Listing.{Choices, choices_of_field, choices_of_fields, choices_of_fields_step, choices_of_optional, choices_of_role, no_choice, product}
use Rattle.facet_solver_shape.specs.Roles.{Role, alternatives, block, catch_all, leaf, regular, role_of}
use Rattle.facet_solver.proofs.Roles.{FieldsBelow-mono, RoleBelow, role_of-below}
use Rattle.facet_solver.proofs.Serving.{role_of-target}
use Rattle.facet_solver.proofs.WalkSteps.{choices_of_fields-step}

pub both_catch_alls : (a b : Contribution) → AreCatchAlls (both a b) → AreCatchAlls a × AreCatchAlls b
both_catch_alls (CatchAlls a) (CatchAlls b) h = (tt, tt)
both_catch_alls (CatchAlls a) Emissions h = absurd h
both_catch_alls (CatchAlls a) ContributesChoices h = absurd h
both_catch_alls Emissions (CatchAlls b) h = absurd h
both_catch_alls Emissions Emissions h = absurd h
both_catch_alls Emissions ContributesChoices h = absurd h
both_catch_alls ContributesChoices b h = absurd h

pub both_has : (category : FieldCategory) (a b : Contribution) → AreCatchAlls a → AreCatchAlls b → has_last category (both a b) ≡ (has_last category a || has_last category b)
both_has category (CatchAlls a) (CatchAlls b) h k = union_has category
  where
    union_has : (category : FieldCategory) → has (union a b) category ≡ (has a category || has b category)
    union_has Flat = refl
    union_has Attribute = refl
    union_has Element = refl
    union_has Text = refl
    union_has Tag = refl
    union_has Elements = refl
both_has category (CatchAlls a) Emissions h k = absurd k
both_has category (CatchAlls a) ContributesChoices h k = absurd k
both_has category Emissions b h k = absurd h
both_has category ContributesChoices b h k = absurd h

both_first : (a b : Contribution) → (both a b ≡ ContributesChoices → ⊥) → a ≡ ContributesChoices → ⊥
both_first (CatchAlls a) b h e = cc
both_first Emissions b h e = cc
both_first ContributesChoices b h e = h refl

both_second : (a b : Contribution) → (both a b ≡ ContributesChoices → ⊥) → b ≡ ContributesChoices → ⊥
both_second (CatchAlls a) (CatchAlls b) h e = cc
both_second (CatchAlls a) Emissions h e = cc
both_second (CatchAlls a) ContributesChoices h e = h refl
both_second Emissions b h e = h (ap (both Emissions) e)
both_second ContributesChoices b h e = h refl

there : (table : List Contribution) (id : ℕ) (b : Contribution) → at table id ≡ b → (b ≡ ContributesChoices → ⊥) → slice_get table id ≡ Some b
there [] id b e h = absurd (h (sym e))
there (c ∷ table) zero b e h = ap Some e
there (c ∷ table) (suc id) b e h = there table id b e h

module _ (build : Build) (checked : NamesEarlier build.catalogue) (table : List Contribution) (are : AreContributions build table) where
  by_kind : (k : ShapeKind) (fs : List Field) → struct_fields k ≡ Some fs → contribution_of_kind table build k ≡ contribution_of_fields table build fs
  by_kind (Struct kind gs) fs e = let same : gs.items ≡ fs = cc in ap (contribution_of_fields table build) same
  by_kind (Enum vs) fs e = absurd (cc)
  by_kind _ fs e = absurd (cc)

  -- the fields of a block contribute what the table has for its target
  pub contribution_of_block : (f : Field) (target : Target) (fs : List Field) → block target fs ≡ role_of build.catalogue f → (at table target.shape ≡ ContributesChoices → ⊥) → contribution_of_fields table build fs ≡ at table target.shape
  contribution_of_block f target fs e h =
      sym (are target.shape (at table target.shape) (there table target.shape (at table target.shape) refl h)
      ∙ by_kind (kind_at build.catalogue target.shape) fs (role_of-target build.catalogue f (block target fs) e))

  pub block_below : (f : Field) (target : Target) (fs : List Field) (n : ℕ) → block target fs ≡ role_of build.catalogue f → f.shape < suc n → FieldsBelow n fs
  block_below f target fs n e lt = FieldsBelow-mono f.shape n fs (omega (arith, lt)) (subst (RoleBelow f.shape) (sym e) (role_of-below build.catalogue checked f))

  -- ---- what contributes no choices has none
  one_role : (n : ℕ) (f : Field) → f.shape < suc n → ((fs : List Field) → FieldsBelow n fs → (contribution_of_fields table build fs ≡ ContributesChoices → ⊥) → choices_of_fields build fs ≡ no_choice)
      → (r : Role) → r ≡ role_of build.catalogue f → (contribution_of_role table build.format f r ≡ ContributesChoices → ⊥) → choices_of_role (choices_of_fields build) build r ≡ no_choice
  one_role n f lt deeper regular e h = refl
  one_role n f lt deeper (block target fs) e h = by_presence target.optional h
    where
      by_presence : (b : Bool) → ((if b then ContributesChoices else at table target.shape) ≡ ContributesChoices → ⊥) → choices_of_optional b (choices_of_fields build fs) ≡ no_choice
      by_presence true h = absurd (h refl)
      by_presence false h = deeper fs (block_below f target fs n e lt) (λ v. h (sym (contribution_of_block f target fs e h) ∙ v))
  one_role n f lt deeper (alternatives target s vs) e h = absurd (h refl)
  one_role n f lt deeper (catch_all target) e h = refl
  one_role n f lt deeper (leaf target) e h = refl

  one_fields : (n : ℕ) → ((fs : List Field) → FieldsBelow n fs → (contribution_of_fields table build fs ≡ ContributesChoices → ⊥) → choices_of_fields build fs ≡ no_choice)
      → (fs : List Field) → FieldsBelow (suc n) fs → (contribution_of_fields table build fs ≡ ContributesChoices → ⊥) → choices_of_fields_step (choices_of_fields build) build fs ≡ no_choice
  unfolding choices_of_fields_step product
  one_fields n deeper [] b h = refl
  one_fields n deeper (f ∷ fs) b h =
      ap (λ (cs : Choices). product cs (choices_of_fields_step (choices_of_fields build) build fs)) (one_role n f b.0 deeper (role_of build.catalogue f) refl (both_first _ (contribution_of_fields table build fs) h))
      ∙ ap (product no_choice) (one_fields n deeper fs b.1 (both_second (contribution_of_field table build f) _ h))

  one_choice : (n : ℕ) → n ≤ length build.catalogue → (fs : List Field) → FieldsBelow n fs → (contribution_of_fields table build fs ≡ ContributesChoices → ⊥) → choices_of_fields build fs ≡ no_choice
  unfolding choices_of_fields_step
  one_choice zero le [] b h = choices_of_fields-step build checked [] tt
  one_choice zero le (f ∷ fs) b h = absurd (omega (arith, b.0))
  one_choice (suc n) le fs b h =
      choices_of_fields-step build checked fs (FieldsBelow-mono (suc n) (length build.catalogue) fs le b)
      ∙ one_fields n (one_choice n (omega (arith, le))) fs b h

  -- a field that contributes no choices has none
  pub field_of_one : (f : Field) → f.shape < length build.catalogue → (contribution_of_field table build f ≡ ContributesChoices → ⊥) → choices_of_field build f ≡ no_choice
  unfolding choices_of_field
  field_of_one f lt h = one_role (length build.catalogue) f (omega (arith, lt)) (one_choice (length build.catalogue) (omega arith)) (role_of build.catalogue f) refl h
