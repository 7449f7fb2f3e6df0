-- What structs contribute is found bottom up.
use Rattle.std.specs.Prelude.{if◌then◌else◌}
use Rattle.std.proofs.Common.{◌≡◌, ◌⊎◌, inl, inr, ◌<◌, ◌≤◌, ◌+◌, ℕ, zero, suc, List, [], ◌∷◌, ◌++◌, Some, refl, sym, ap, ◌∙◌, subst, slice_get, length, get_or, drop, arith}
use Rattle.std.proofs.Math.Bool.{or-false, or_assoc}
use Rattle.std.proofs.Math.ListN.{drop_of_length-le}
use Rattle.std.proofs.lemmas.List.{drop_more, length_push}
use Rattle.std.proofs.lemmas.Option.{get_or_from_slice_get, slice_get-get_or, slice_get_within}
use Rattle.facet_solver_shape.specs.Catalogues.{FieldsBelow, KindBelow, NamesEarlier}
use Rattle.facet_solver_shape.specs.declared.shape.Field.{Field}
use Rattle.facet_solver_shape.specs.declared.shape.ShapeKind.{ShapeKind}
use Rattle.facet_solver_shape.specs.declared.shape.ShapeKind.TheVariants.{Struct}
use Rattle.facet_solver.specs.declared.build.contribution.Contribution.{Contribution}
use Rattle.facet_solver.specs.declared.build.contribution.Contribution.TheVariants.{CatchAlls, Emissions, Choices as ContributesChoices}
use Rattle.facet_solver_shape.specs.declared.role.Target.{Target}
use Rattle.facet_solver.specs.declared.build.contribution.categories.Categories.{Categories}
use Rattle.facet_solver.specs.build.Contribution.{AreContributions, at, both, contribution_of_field, contribution_of_fields, contribution_of_kind, contribution_of_role, none, union}
use Rattle.facet_solver.specs.build.Build.{Build, kind_at}
use Rattle.facet_solver_shape.specs.Roles.{Role, alternatives, block, catch_all, leaf, regular, role_of}
use Rattle.facet_solver.specs.build.Nested.{structs_alone}
use Rattle.facet_solver.proofs.Nested.{kind_at-below}
use Rattle.facet_solver.proofs.Outcome.{get_push}
use Rattle.facet_solver.proofs.Roles.{KindBelow-mono, target_in, target_in_role-le}

-- ---- what several contribute
union_none : (a : Categories) → union a none ≡ a
union_none a i = record { flat = or-false a.flat i; attribute = or-false a.attribute i; element = or-false a.element i }

union_assoc : (a b c : Categories) → union (union a b) c ≡ union a (union b c)
union_assoc a b c i = record {
  flat = or_assoc a.flat b.flat c.flat i;
  attribute = or_assoc a.attribute b.attribute c.attribute i;
  element = or_assoc a.element b.element c.element i;
}

pub both_none : (a : Contribution) → both a (CatchAlls none) ≡ a
both_none (CatchAlls a) = ap CatchAlls (union_none a)
both_none Emissions = refl
both_none ContributesChoices = refl

both_assoc : (a b c : Contribution) → both (both a b) c ≡ both a (both b c)
both_assoc (CatchAlls a) (CatchAlls b) (CatchAlls c) = ap CatchAlls (union_assoc a b c)
both_assoc (CatchAlls a) (CatchAlls b) Emissions = refl
both_assoc (CatchAlls a) (CatchAlls b) ContributesChoices = refl
both_assoc (CatchAlls a) Emissions c = emissions c
  where
    emissions : (c : Contribution) → both Emissions c ≡ both (CatchAlls a) (both Emissions c)
    emissions (CatchAlls c) = refl
    emissions Emissions = refl
    emissions ContributesChoices = refl
both_assoc (CatchAlls a) ContributesChoices c = choices c
  where
    choices : (c : Contribution) → both ContributesChoices c ≡ both (CatchAlls a) (both ContributesChoices c)
    choices (CatchAlls c) = refl
    choices Emissions = refl
    choices ContributesChoices = refl
both_assoc ContributesChoices b c = refl
both_assoc Emissions (CatchAlls b) (CatchAlls c) = refl
both_assoc Emissions (CatchAlls b) Emissions = refl
both_assoc Emissions (CatchAlls b) ContributesChoices = refl
both_assoc Emissions Emissions (CatchAlls c) = refl
both_assoc Emissions Emissions Emissions = refl
both_assoc Emissions Emissions ContributesChoices = refl
both_assoc Emissions ContributesChoices c = refl

module _ (table : List Contribution) (build : Build) (fs : List Field) (i : ℕ) (so_far : Contribution) where
  pub both_more : (f : Field) → i < length fs → f ≡ get_or fs i f → both (both so_far (contribution_of_field table build f)) (contribution_of_fields table build (drop (i + 1) fs)) ≡ both so_far (contribution_of_fields table build (drop i fs))
  both_more f lt is =
      both_assoc so_far (contribution_of_field table build f) (contribution_of_fields table build (drop (i + 1) fs))
      ∙ ap (λ (gs : List Field). both so_far (contribution_of_fields table build gs)) (ap (λ (g : Field). g ∷ drop (i + 1) fs) is ∙ sym (drop_more fs i f lt))

  pub both_end : length fs ≤ i → both so_far (contribution_of_fields table build (drop i fs)) ≡ so_far
  both_end past = ap (λ (gs : List Field). both so_far (contribution_of_fields table build gs)) (drop_of_length-le fs past) ∙ both_none so_far

-- ---- an entry goes by earlier ones
before_end : {X : Type 0} (ts : List X) (x : X) (k : ℕ) → k < length ts → slice_get (ts ++ x ∷ []) k ≡ slice_get ts k
before_end [] x k h = absurd (omega arith)
before_end (t ∷ ts) x zero h = refl
before_end (t ∷ ts) x (suc k) h = before_end ts x k (omega arith)

module _ (build : Build) (checked : NamesEarlier build.catalogue) (ts : List Contribution) (b : Contribution) where
  abbrev more : List Contribution
  more = ts ++ b ∷ []

  at_same : (id : ℕ) → id < length ts → at more id ≡ at ts id
  at_same id lt = get_or_from_slice_get more id (at ts id) ContributesChoices (before_end ts b id lt ∙ slice_get-get_or ts id ContributesChoices lt)

  role_same : (f : Field) (r : Role) → ((target : Target) → Some target ≡ target_in r → target.shape < length ts) → contribution_of_role more build.format f r ≡ contribution_of_role ts build.format f r
  unfolding target_in
  role_same f regular h = refl
  role_same f (block target fs) h = ap (λ (x : Contribution). if target.optional then ContributesChoices else x) (at_same target.shape (h target refl))
  role_same f (alternatives target s vs) h = refl
  role_same f (catch_all target) h = refl
  role_same f (leaf target) h = refl

  fields_same : (fs : List Field) → FieldsBelow (length ts) fs → contribution_of_fields more build fs ≡ contribution_of_fields ts build fs
  fields_same [] h = refl
  fields_same (f ∷ fs) h =
      ap (λ (x : Contribution). both x (contribution_of_fields more build fs))
      (role_same f (role_of build.catalogue f) (λ target e. let le = target_in_role-le build.catalogue checked f target e in omega (arith, le, h.0)))
      ∙ ap (λ (x : Contribution). both (contribution_of_field ts build f) x) (fields_same fs h.1)

  kind_same : (k : ShapeKind) → KindBelow (length ts) k → contribution_of_kind more build k ≡ contribution_of_kind ts build k
  kind_same (Struct kind fs) h = fields_same fs.items h
  kind_same _ h = refl

-- ---- a table grows index by index
pub record AreFirstContributions (build : Build) (table : List Contribution) : Type 0 where
  pub within : length table ≤ length build.catalogue
  pub each : AreContributions build table

module _ (build : Build) where
  pub one_contributed : NamesEarlier build.catalogue → (ts : List Contribution) → AreFirstContributions build ts → length ts < length build.catalogue → (b : Contribution) → b ≡ contribution_of_kind ts build (kind_at build.catalogue (length ts)) → AreFirstContributions build (ts ++ b ∷ [])
  one_contributed checked ts first lt b is = record {
    within = let l = length_push ts b in omega (arith, l);
    each = λ id c e. either id c (get_push ts b c id e);
  }
    where
      either : (id : ℕ) (c : Contribution) → (slice_get ts id ≡ Some c) ⊎ ((id ≡ length ts) × (b ≡ c)) → c ≡ contribution_of_kind (ts ++ b ∷ []) build (kind_at build.catalogue id)
      either id c (inl before) =
          let lt = slice_get_within ts id c before in
          first.each id c before ∙ sym (kind_same build checked ts b (kind_at build.catalogue id) (KindBelow-mono id (length ts) (kind_at build.catalogue id) (omega (arith, lt)) (kind_at-below structs_alone build.catalogue checked id)))
      either id c (inr last) =
          sym last.1
          ∙ is
          ∙ ap (λ (i : ℕ). contribution_of_kind ts build (kind_at build.catalogue i)) (sym last.0)
          ∙ sym (kind_same build checked ts b (kind_at build.catalogue id) (subst (λ (i : ℕ). KindBelow i (kind_at build.catalogue id)) last.0 (kind_at-below structs_alone build.catalogue checked id)))
