use Rattle.std.proofs.Common.{◌≡◌, ◌-◌, length}
use Rattle.facet_solver_shape.specs.Names.{variant_names}
use Rattle.facet_solver_types.specs.PrintedNames.{marks_of, marks_from}
use Rattle.facet_solver_types.proofs.display.variant_name.marks_of.Given as goal

-- the tries that are left find what all find
abbrev pub invariant-loop-marks : goal.invariant-loop-marks
invariant-loop-marks l =
    marks_from (variant_names l.variants) l.number l.marks (length l.variants - l.marks)
    ≡ marks_of (variant_names l.variants) l.number
