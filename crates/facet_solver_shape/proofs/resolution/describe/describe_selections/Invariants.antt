use Rattle.std.proofs.Common.{◌≡◌, ◌++◌, take, codes}
use Rattle.std.specs.List.{flat_map}
use Rattle.std.specs.String.{string_bytes}
use Rattle.facet_solver_shape.specs.Resolved.{selection_text, selection_view}
use Rattle.facet_solver_shape.proofs.resolution.describe.describe_selections.Given as goal

-- the selections so far are written
abbrev pub invariant-loop-selection : goal.invariant-loop-selection
invariant-loop-selection l =
    string_bytes l.text ≡ string_bytes l.initial.text ++ flat_map (λ p. codes " + " ++ selection_text (selection_view p)) (take l.selection-index l.rest)
