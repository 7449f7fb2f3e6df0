use Rattle.std.proofs.Common.{◌≡◌, ◌++◌, map, take}
use Rattle.facet_solver_shape.specs.Resolved.{selection_view}
use Rattle.facet_solver_shape.proofs.resolution.field.push_copies.Given as goal

-- the selections so far are added
abbrev pub invariant-loop-selection : goal.invariant-loop-selection
invariant-loop-selection l =
    map selection_view l.made.items ≡ map selection_view l.initial.made.items ++ map selection_view (take l.selection-index l.selections)
