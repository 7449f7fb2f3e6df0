-- Which handles, answers and formats belong to a schema: the definitions, row by row.
use Rattle.std.proofs.Common.{◌≡◌, [], ◌∷◌, All, slice_get, refl, sym, ap, subst, ◌∙◌, codes}
use Rattle.std.proofs.lemmas.List.Elements.{All-nil, All-cons, All-head}
use Rattle.std.specs.FinMap as finite
use Rattle.facet_solver_shape.specs.declared.resolution.key.FieldCategory.TheVariants.{Flat as FlatCategory, Attribute}
use Rattle.facet_solver.specs.declared.build.format.Format.TheVariants.{Flat, Dom}
use Rattle.facet_solver.specs.declared.schema.handle.ResolutionHandle.{ResolutionHandle}
use Rattle.facet_solver.specs.declared.solver.key_result.KeyResult.TheVariants.{Solved, Unknown}
use Rattle.facet_solver.specs.declared.solver.satisfy_result.SatisfyResult.TheVariants as satisfied
use Rattle.facet_solver.specs.schema.Indexed.{AreOfFormat, HasFormat, IsOfFormat}
use Rattle.facet_solver.specs.schema.ResolutionHandle.{IsHandleOf}
use Rattle.facet_solver.specs.solver.KeyResult.{IsKeyResultOf}
use Rattle.facet_solver.specs.solver.SatisfyResult.{IsSatisfyResultOf}
use Rattle.facet_solver.proofs.SampleResolutions.{entry, only_a, only_b, two, values_of}

-- a handle of the resolution at its index
pub handle_holds :
    (handle : ResolutionHandle) → handle.index ≡ 1 → handle.resolution.now ≡ only_b
    → IsHandleOf (two only_a only_b) handle
handle_holds handle index resolution = rw (index, resolution) refl

-- an index that the schema lacks
pub handle_fails : (handle : ResolutionHandle) → handle.index ≡ 2 → ¬ (IsHandleOf (two only_a only_b) handle)
handle_fails handle index is =
    let none = sym (ap (slice_get (only_a ∷ only_b ∷ [])) index) ∙ is in
    cc

-- answers with a handle of the schema, and with one that is none
pub answer_rows :
    IsKeyResultOf (two only_a only_b) Unknown
    × ((handle : ResolutionHandle) → handle.index ≡ 2 → ¬ (IsKeyResultOf (two only_a only_b) (Solved handle)))
    × IsSatisfyResultOf (two only_a only_b) satisfied.NoMatch
    × ((handle : ResolutionHandle) → handle.index ≡ 2 → ¬ (IsSatisfyResultOf (two only_a only_b) (satisfied.Solved handle)))
answer_rows = (tt, handle_fails, tt, handle_fails)

-- flat documents have flat fields alone, and document trees none
pub category_rows :
    IsOfFormat Flat FlatCategory
    × (¬ (IsOfFormat Flat Attribute))
    × IsOfFormat Dom Attribute
    × (¬ (IsOfFormat Dom FlatCategory))
category_rows = (refl, λ is. cc, λ is. cc, λ other. other refl)

-- a resolution whose only field is flat is of the flat format
flat_fields : All (λ f. IsOfFormat Flat f.category) (finite.values only_a.fields)
flat_fields =
    subst (All (λ f. IsOfFormat Flat f.category)) (sym (values_of (entry (codes "a") ∷ []) tt))
    (All-cons (λ f. IsOfFormat Flat f.category) _ [] refl (All-nil _))

pub format_rows :
    HasFormat Flat only_a
    × (¬ (HasFormat Dom only_a))
    × AreOfFormat Flat (only_a ∷ [])
    × (¬ (AreOfFormat Dom (only_a ∷ [])))
format_rows = (
  flat_fields,
  dom_fails,
  All-cons (HasFormat Flat) _ [] flat_fields (All-nil _),
  λ all. dom_fails (All-head (HasFormat Dom) only_a [] all),
)
  where
    dom_fails : ¬ (HasFormat Dom only_a)
    dom_fails all =
        All-head (λ f. IsOfFormat Dom f.category) _ [] (subst (All (λ f. IsOfFormat Dom f.category)) (values_of (entry (codes "a") ∷ []) tt) all) refl
