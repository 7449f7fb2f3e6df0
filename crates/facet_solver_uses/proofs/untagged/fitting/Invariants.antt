use Rattle.std.proofs.Common.{◌≡◌, filter, take}
use Rattle.facet_solver.specs.Groups.{variants_view}
use Rattle.facet_solver_uses.specs.Untagged.{may_be}
use Rattle.facet_solver_uses.proofs.untagged.fitting.Given as goal

-- what the value may be of the variants before this one
abbrev pub invariant-loop-variant : goal.invariant-loop-variant
invariant-loop-variant l =
    variants_view l.found.items ≡ filter (may_be l.shapes l.value) (take l.variant-index l.variants)
