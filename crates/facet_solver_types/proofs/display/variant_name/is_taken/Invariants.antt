use Rattle.std.proofs.Common.{◌≡◌, drop}
use Rattle.facet_solver_shape.specs.Names.{variant_names}
use Rattle.facet_solver_types.specs.PrintedNames.{is_taken}
use Rattle.facet_solver_types.proofs.display.variant_name.is_taken.Given as goal

-- those that are left tell what all tell
abbrev pub invariant-loop-variant : goal.invariant-loop-variant
invariant-loop-variant l =
    is_taken (variant_names (drop l.variant-index l.variants)) l.number l.marks
    ≡ is_taken (variant_names l.variants) l.number l.marks
