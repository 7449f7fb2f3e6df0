use Rattle.std.proofs.Common.{◌≡◌, take}
use Rattle.facet_solver_shape.specs.Groups.{groups_of, groups_view}
use Rattle.facet_solver_shape.proofs.variants.grouping.grouped.Given as goal

-- the variants before this one are grouped
abbrev pub invariant-loop-variant : goal.invariant-loop-variant
invariant-loop-variant l = groups_view l.groups ≡ groups_of l.shapes (take l.variant-index l.variants)
