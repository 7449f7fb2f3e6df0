use Rattle.std.proofs.Common.{◌≡◌, true, map, take}
use Rattle.std.specs.Fmt.{HasWritten, IsPlainFormatter}
use Rattle.std.specs.List.{flat_map}
use Rattle.facet_solver.specs.error.ErrorTexts.{failure_text, failure_names}
use Rattle.facet_solver.specs.error.QuotedNames.{all_ascii}
use Rattle.facet_solver.specs.error.ErrorView.{failure_view}
use Rattle.facet_solver.proofs.error.no_match.FailureLinesDisplay.fmt.Given as goal

-- the lines so far are written
abbrev pub invariant-loop-failure : goal.invariant-loop-failure
invariant-loop-failure g l =
    all_ascii (flat_map failure_names (map failure_view l.failure-items)) ≡ true → IsPlainFormatter l.initial.f
    → HasWritten g.W.Write.write_str_gives l.initial.f (flat_map (λ x. failure_text (failure_view x)) (take l.failure-index l.failure-items)) l.f
