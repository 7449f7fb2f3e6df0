-- The work below fields does not depend on the levels that are left, and grows field by field.
use Rattle.std.proofs.Common.{◌≡◌, ◌+◌, ◌<◌, ◌≤◌, ℕ, suc, List, [], ◌∷◌, ◌++◌, Some, ap, arith, length, refl, slice_get, subst, sum_by, sym, ◌∙◌}
use Rattle.std.proofs.lemmas.List.Sums.{get_or-le-sum_by}
use Rattle.std.proofs.lemmas.Option.{get_or_from_slice_get, slice_get_within}
use Rattle.facet_solver_shape.specs.declared.shape.Field.{Field}
use Rattle.facet_solver_shape.specs.declared.shape.Shape.{Shape}
use Rattle.facet_solver_shape.specs.declared.shape.Variant.{Variant}
use Rattle.facet_solver_shape.specs.Catalogues.{FieldsBelow, NamesEarlier}
use Rattle.facet_solver_shape.specs.declared.role.Target.{Target}
use Rattle.facet_solver.specs.build.Build.{Build}
use Rattle.facet_solver.specs.build.Content.{content_of}
use Rattle.facet_solver_shape.specs.Roles.{Role, regular, block, alternatives, catch_all, leaf, role_of}
use Rattle.facet_solver.specs.build.Work.{Work, work_of_field, work_of_fields, work_of_fields_step, work_of_role, work_of_variant, work_within}
use Rattle.facet_solver.proofs.Roles.{IsLocal, RoleBelow, content_of-below, one_step, role_of-below}
use Rattle.facet_solver.proofs.Count.{sum_by-same}

-- the last of some fields stands below the limit, and so do those before it
pub FieldsBelow-last : (limit : ℕ) (fs : List Field) (f : Field) → FieldsBelow limit (fs ++ f ∷ []) → FieldsBelow limit fs × (f.shape < limit)
FieldsBelow-last limit [] f b = (tt, b.0)
FieldsBelow-last limit (g ∷ fs) f b = let last = FieldsBelow-last limit fs f b.1 in ((b.0, last.0), last.1)

pub last_below : (limit : ℕ) (all fs : List Field) (f : Field) → all ≡ fs ++ f ∷ [] → FieldsBelow limit all → FieldsBelow limit fs × (f.shape < limit)
last_below limit all fs f e b = FieldsBelow-last limit fs f (subst (FieldsBelow limit) e b)

module _ (build : Build) (checked : NamesEarlier build.catalogue) where
  work_of_variant-same : (g h : Work) (limit : ℕ) (v : Variant) → FieldsBelow limit v.fields.items → ((gs : List Field) → FieldsBelow limit gs → g gs ≡ h gs) → work_of_variant g build.catalogue v ≡ work_of_variant h build.catalogue v
  work_of_variant-same g h limit v b x = ap (λ (n : ℕ). 2 + n) (x (content_of build.catalogue v).fields (content_of-below build.catalogue checked limit v b))

  work_of_role-same : (g h : Work) (limit : ℕ) (r : Role) → RoleBelow limit r → ((gs : List Field) → FieldsBelow limit gs → g gs ≡ h gs) → work_of_role g build r ≡ work_of_role h build r
  work_of_role-same g h limit regular b x = refl
  work_of_role-same g h limit (block target fs) b x = ap (λ (n : ℕ). 2 + n) (x fs b)
  work_of_role-same g h limit (alternatives target s vs) b x = ap (λ (n : ℕ). 1 + n) (sum_by-same build checked limit _ _ vs b (λ v below. work_of_variant-same g h limit v below x))
  work_of_role-same g h limit (catch_all target) b x = refl
  work_of_role-same g h limit (leaf target) b x = refl

  work-local : IsLocal (λ below fs. work_of_fields_step below build fs)
  unfolding work_of_fields_step
  work-local g h limit [] b x = refl
  work-local g h limit (f ∷ fs) b x =
      ap (λ (n : ℕ). 1 + n + work_of_fields_step g build fs) (work_of_role-same g h f.shape (role_of build.catalogue f) (role_of-below build.catalogue checked f) (λ gs below. x f.shape gs b.0 below))
      ∙ ap (λ (n : ℕ). 1 + work_of_role h build (role_of build.catalogue f) + n) (work-local g h limit fs b.1 x)

  work-step : (n : ℕ) (fs : List Field) → work_within (suc n) build fs ≡ work_of_fields_step (work_within n build) build fs
  unfolding work_within
  work-step n fs = refl

  -- the work of fields, by that of what is flattened into them
  work_of_fields-step : (fs : List Field) → FieldsBelow (length build.catalogue) fs → work_of_fields build fs ≡ work_of_fields_step (work_of_fields build) build fs
  unfolding work_of_fields
  work_of_fields-step fs b = one_step (λ below gs. work_of_fields_step below build gs) (λ n gs. work_within n build gs) work-step work-local (length build.catalogue) fs b

  step-last : (below : Work) (fs : List Field) (f : Field) → work_of_fields_step below build (fs ++ f ∷ []) ≡ work_of_fields_step below build fs + (1 + work_of_role below build (role_of build.catalogue f))
  unfolding work_of_fields_step
  step-last below [] f = omega arith
  step-last below (g ∷ fs) f = let e = step-last below fs f in omega (arith, e)

  -- the last field adds its own work, and a step
  pub work_of_fields-last : (fs : List Field) (f : Field) → FieldsBelow (length build.catalogue) (fs ++ f ∷ []) → work_of_fields build (fs ++ f ∷ []) ≡ work_of_fields build fs + (1 + work_of_field build f)
  work_of_fields-last fs f b =
      work_of_fields-step (fs ++ f ∷ []) b
      ∙ step-last (work_of_fields build) fs f
      ∙ ap (λ (n : ℕ). n + (1 + work_of_field build f)) (sym (work_of_fields-step fs (FieldsBelow-last (length build.catalogue) fs f b).0))

  -- the first field does too
  pub work_of_fields-first : (f : Field) (fs : List Field) → FieldsBelow (length build.catalogue) (f ∷ fs) → work_of_fields build (f ∷ fs) ≡ 1 + work_of_field build f + work_of_fields build fs
  unfolding work_of_fields_step
  work_of_fields-first f fs b =
      work_of_fields-step (f ∷ fs) b
      ∙ ap (λ (n : ℕ). 1 + work_of_field build f + n) (sym (work_of_fields-step fs b.1))

-- a variant's work is a part of that of its field
pub work_of_variant-le : (build : Build) (f : Field) (target : Target) (s : Shape) (vs : List Variant) (i : ℕ) (v : Variant) → alternatives target s vs ≡ role_of build.catalogue f → slice_get vs i ≡ Some v → work_of_variant (work_of_fields build) build.catalogue v ≤ work_of_field build f
work_of_variant-le build f target s vs i v is at =
    let work = work_of_variant (work_of_fields build) build.catalogue in
    let one = get_or-le-sum_by work vs i v (slice_get_within vs i v at) in
    let same = ap work (get_or_from_slice_get vs i v v at) in
    let whole : 1 + sum_by work vs ≡ work_of_field build f = ap (work_of_role (work_of_fields build) build) is in
    omega (arith, one, same, whole)
