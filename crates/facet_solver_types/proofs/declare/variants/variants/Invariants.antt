use Rattle.std.proofs.Common.{◌≡◌, drop}
use Rattle.facet_solver_types.specs.Declarations as items
use Rattle.facet_solver_types.specs.Gatherings.{gathered_after, gathering_view}
use Rattle.facet_solver_types.specs.ReadVariants.{variant, variants}
use Rattle.facet_solver_types.specs.Understood.{variant_view}
use Rattle.facet_solver_types.proofs.declare.variants.variants.Given as goal

-- those of all are those of the rest behind those so far
abbrev pub invariant-loop-one : goal.invariant-loop-one
invariant-loop-one l =
    variants l.all (items.variants_view l.written)
    ≡ gathered_after (λ found. variant l.all) (gathering_view variant_view l.found)
    (items.variants_view (drop l.one-index l.written))
