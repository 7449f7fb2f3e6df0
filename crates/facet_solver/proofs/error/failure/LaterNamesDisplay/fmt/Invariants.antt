use Rattle.std.proofs.Common.{◌≡◌, true, map, take, ◌++◌, codes}
use Rattle.std.specs.Fmt.{HasWritten, IsPlainFormatter}
use Rattle.std.specs.List.{flat_map}
use Rattle.facet_solver.specs.error.ErrorTexts.{missing_names}
use Rattle.facet_solver.specs.error.QuotedNames.{quoted, all_ascii}
use Rattle.facet_solver.specs.error.ErrorView.{missing_view}
use Rattle.facet_solver.proofs.error.failure.LaterNamesDisplay.fmt.Given as goal

-- the names so far are written
abbrev pub invariant-loop-field : goal.invariant-loop-field
invariant-loop-field g l =
    all_ascii (missing_names (map missing_view l.field-items)) ≡ true → IsPlainFormatter l.initial.f
    → HasWritten g.W.Write.write_str_gives l.initial.f (flat_map (λ m. codes ", " ++ quoted (missing_view m).name) (take l.field-index l.field-items)) l.f
