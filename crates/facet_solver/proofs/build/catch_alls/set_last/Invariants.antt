use Rattle.std.proofs.Common.{◌≡◌, length}
use Rattle.facet_solver_shape.specs.Catalogues.{FieldsBelow}
use Rattle.facet_solver.specs.build.Contribution.{AreCatchAlls, contribution_of_fields}
use Rattle.facet_solver.specs.build.Build.{build_of}
use Rattle.facet_solver.specs.build.CatchAlls.{emitted_by, last_catch_all}
use Rattle.facet_solver.specs.build.WalkFrames.{IsInside}
use Rattle.facet_solver.proofs.Roles.{limit_of}
use Rattle.facet_solver.proofs.build.catch_alls.set_last.Given as goal

-- the last catch-all of the fields come to is that of those given
abbrev pub invariant-loop-field : goal.invariant-loop-field
invariant-loop-field l =
    (last_catch_all l.category (emitted_by (build_of l.walker.build) l.fields l.place)
    ≡ last_catch_all l.category (emitted_by (build_of l.walker.build) l.fn.fields l.fn.place))
    × (IsInside l.fn.place l.place
    × (FieldsBelow (length l.walker.build.shapes.now) l.fields
    × (AreCatchAlls (contribution_of_fields l.walker.contribution.by_index.items (build_of l.walker.build) l.fields)
    × (l.resolution ≡ l.fn.resolution))))

abbrev pub decreases-loop-field : goal.decreases-loop-field
decreases-loop-field l = limit_of l.fields
