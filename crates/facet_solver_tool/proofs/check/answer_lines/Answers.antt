use Rattle.std.proofs.Common.{◌∙◌, ◌==◌, ap, filter, length, map}
use Rattle.facet_solver_tool.specs.Checks.{is_outdated_by, lines_view}
use Rattle.facet_solver_tool.specs.Findings.{end_of, finding_of, finding_view, keys_view}
use Rattle.facet_solver_tool.proofs.Ends.{ended}
use Rattle.facet_solver_tool.proofs.TypesAlone.{empty_of, tells_if}
use Rattle.facet_solver_tool.proofs.check.answer_lines.Goals as goal

pub returns : goal.returns
returns c =
    let found = c.in_ok-findings.findings.items in
    let lines = c.args.lines.now in
    let left = c.in_ok-outdated.ensures
    ∙ ap (λ fs. filter (λ line. is_outdated_by (keys_view fs) line.now) lines) c.deref.ensures.value in (
      ended lines c.in_ok-outdated.outdated.items c.args.reports.now.asked.ambiguities.items found c.status_of.result
          (c.status_of.ensures
          ∙ ap (λ fs. end_of (map finding_view fs) (length c.deref-5.result.now == 0)) c.deref-4.ensures.value
          ∙ ap (λ left. end_of (map finding_view found) (length left == 0)) c.deref-5.ensures.value)
          c.in_ok-findings.ensures
          left,
      tells_if c.args.form _ _
          (λ none. (
            c.deref-2.ensures.value
                ∙ empty_of finding_view found (c.in_ok-findings.ensures ∙ ap (map (finding_of (lines_view lines))) none.1),
            c.deref-3.ensures.value ∙ left
                ∙ ap (filter (λ line. is_outdated_by (keys_view found) line.now)) none.0,
          ))
          c.in_ok-text.ensures,
    )
