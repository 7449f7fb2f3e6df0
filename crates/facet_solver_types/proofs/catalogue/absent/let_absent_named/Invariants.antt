use Rattle.std.proofs.Common.{◌≡◌, map}
use Rattle.facet_solver_types.specs.AbsentMembers.{let_absent_field}
use Rattle.facet_solver_types.specs.ShapeViews.{field_view}
use Rattle.facet_solver_types.proofs.InPlace.{changed}
use Rattle.facet_solver_types.proofs.catalogue.absent.let_absent_named.Given as goal

-- those so far are changed
abbrev pub invariant-loop-field : goal.invariant-loop-field
invariant-loop-field l =
    map field_view l.fields
    ≡ changed (let_absent_field l.absences) l.field-index (map field_view l.initial.fields)
