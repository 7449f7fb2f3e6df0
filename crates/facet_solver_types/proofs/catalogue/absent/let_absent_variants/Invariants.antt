use Rattle.std.proofs.Common.{◌≡◌, map}
use Rattle.facet_solver_types.specs.AbsentMembers.{let_absent_variant}
use Rattle.facet_solver_types.specs.ShapeViews.{variant_view}
use Rattle.facet_solver_types.proofs.InPlace.{changed}
use Rattle.facet_solver_types.proofs.catalogue.absent.let_absent_variants.Given as goal

-- those so far are changed
abbrev pub invariant-loop-variant : goal.invariant-loop-variant
invariant-loop-variant l =
    map variant_view l.variants
    ≡ changed (let_absent_variant l.absences) l.variant-index (map variant_view l.initial.variants)
