use Rattle.std.proofs.Common.{◌∙◌, ap}
use Rattle.std.specs.List.{list_any}
use Rattle.facet_solver_tool.specs.AmbiguityKeys.{key}
use Rattle.facet_solver_tool.specs.Checks.{begins_with}
use Rattle.facet_solver_tool.proofs.FindingViews.{same_finding}
use Rattle.facet_solver_tool.proofs.Words.{any_said}
use Rattle.facet_solver_tool.proofs.check.finding.Finding.new.Goals as goal

pub returns : goal.returns
returns c =
    let lines = c.args.lines.now in
    let named = c.in_ok-key.ensures.ok in
    same_finding c.args.ambiguity.now named
    (c.is_accepted-is_accepted.ensures
    ∙ ap (λ k. list_any (λ line. begins_with k line.now) lines) (c.as_str.ensures.value ∙ named)
    ∙ any_said (begins_with (key c.args.ambiguity.now)) (λ line. line.now) lines)
