use Rattle.std.proofs.Common.{◌≡◌, ◌+◌, ◌<◌, ℕ, get_or, length, take}
use Rattle.std.specs.Prelude.{All, sum_by}
use Rattle.facet_solver_shape.specs.Steps.{NoCountFalls}
use Rattle.facet_solver_shape.specs.Catalogues.{VariantsBelow}
use Rattle.facet_solver_shape.specs.declared.shape.Variant.{Variant}
use Rattle.facet_solver.specs.build.Reached.{IsReachedMore, Reach, ReachAmong, VariantReached, reach}
use Rattle.facet_solver.proofs.build.nested.reached.mark_variants.Given as goal

-- what those so far lead to is marked
abbrev pub invariant-loop-variant : goal.invariant-loop-variant
invariant-loop-variant l =
    ((limit : ℕ) → VariantsBelow limit l.variants → IsReachedMore limit (reach l.fn.walked l.fn.structs) (reach l.walked l.structs))
    × ((i : ℕ) (d : Variant) → i < l.variant-index → VariantReached (reach l.walked l.structs) l.shapes (get_or l.variants i d))
    × (l.steps.visits ≡ l.fn.steps.visits + sum_by (λ v. length v.fields.items) (take l.variant-index l.variants))
    × NoCountFalls l.fn.steps l.steps
    × ((others : Reach) → ReachAmong (reach l.fn.walked l.fn.structs) others → All (VariantReached others l.shapes) l.variants → ReachAmong (reach l.walked l.structs) others)
