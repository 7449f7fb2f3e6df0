use Rattle.std.proofs.Common.{◌≡◌, map}
use Rattle.facet_solver_types.specs.AbsentMembers.{let_absent}
use Rattle.facet_solver_types.specs.ShapeViews.{shape_view}
use Rattle.facet_solver_types.proofs.InPlace.{changed}
use Rattle.facet_solver_types.proofs.catalogue.absent.let_absent.Given as goal

-- those so far are changed
abbrev pub invariant-loop-shape : goal.invariant-loop-shape
invariant-loop-shape l =
    map shape_view l.shapes
    ≡ changed (let_absent l.absences) l.shape-index (map shape_view l.initial.shapes)
