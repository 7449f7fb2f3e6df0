use Rattle.std.proofs.Common.{◌≡◌, ◌≤◌, length}
use Rattle.facet_solver_shape.specs.Catalogues.{FieldsBelow}
use Rattle.facet_solver.specs.build.Build.{build_of}
use Rattle.facet_solver.specs.build.Listing.{choices_of_fields}
use Rattle.facet_solver.specs.build.Work.{work_of_fields}
use Rattle.facet_solver.proofs.build.choices.up_to_choices.Given as goal

-- the fields that were left out have nothing to choose
abbrev pub invariant-loop-field : goal.invariant-loop-field
invariant-loop-field l =
    FieldsBelow (length l.walker.build.shapes.now) l.kept
    × (choices_of_fields (build_of l.walker.build) l.kept ≡ choices_of_fields (build_of l.walker.build) l.fields)
    × (work_of_fields (build_of l.walker.build) l.kept ≤ work_of_fields (build_of l.walker.build) l.fields)

abbrev pub decreases-loop-field : goal.decreases-loop-field
decreases-loop-field l = length l.kept
