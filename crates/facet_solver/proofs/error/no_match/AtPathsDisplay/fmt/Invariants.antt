use Rattle.std.proofs.Common.{take}
use Rattle.std.specs.Fmt.{HasWritten, IsPlainFormatter}
use Rattle.std.specs.List.{flat_map}
use Rattle.facet_solver.specs.error.ErrorTexts.{field_at_path}
use Rattle.facet_solver.specs.error.ErrorView.{missing_view}
use Rattle.facet_solver.proofs.error.no_match.AtPathsDisplay.fmt.Given as goal

-- the fields so far are written
abbrev pub invariant-loop-field : goal.invariant-loop-field
invariant-loop-field g l =
    IsPlainFormatter l.initial.f → HasWritten g.W.Write.write_str_gives l.initial.f (flat_map (λ m. field_at_path (missing_view m)) (take l.field-index l.field-items)) l.f
