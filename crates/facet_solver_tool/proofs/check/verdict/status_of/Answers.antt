use Rattle.std.proofs.Common.{◌∙◌, ◌==◌, length, map, sym}
use Rattle.std.specs.List.{list_any}
use Rattle.facet_solver_tool.specs.Findings.{counts, counts_as_shown, finding_view}
use Rattle.facet_solver_tool.proofs.Verdicts.{ends_any, ends_outdated, ends_shown, ends_well}
use Rattle.facet_solver_tool.proofs.Words.{any_said}
use Rattle.facet_solver_tool.proofs.check.verdict.status_of.Goals as goal

pub returns-then-has_shown : goal.returns-then-has_shown
returns-then-has_shown c =
    let findings = c.args.findings.now in
    let views = map finding_view findings in
    ends_shown (list_any counts_as_shown views) (list_any counts views) (length c.args.outdated.now == 0)
    (sym (any_said counts_as_shown finding_view findings) ∙ sym c.has_shown.ensures ∙ c.if-has_shown.true)

pub returns-then-has_any : goal.returns-then-has_any
returns-then-has_any c =
    let findings = c.args.findings.now in
    let views = map finding_view findings in
    ends_any (list_any counts_as_shown views) (list_any counts views) (length c.args.outdated.now == 0)
    (sym (any_said counts_as_shown finding_view findings) ∙ sym c.has_shown.ensures ∙ c.if-has_shown.false)
    (sym (any_said counts finding_view findings) ∙ sym c.has_any.ensures ∙ c.if-has_any.true)

pub returns-then-is_empty : goal.returns-then-is_empty
returns-then-is_empty c =
    let findings = c.args.findings.now in
    let views = map finding_view findings in
    ends_well (list_any counts_as_shown views) (list_any counts views) (length c.args.outdated.now == 0)
    (sym (any_said counts_as_shown finding_view findings) ∙ sym c.has_shown.ensures ∙ c.if-has_shown.false)
    (sym (any_said counts finding_view findings) ∙ sym c.has_any.ensures ∙ c.if-has_any.false)
    (sym c.is_empty.ensures ∙ c.if-is_empty.true)

pub returns-else-is_empty : goal.returns-else-is_empty
returns-else-is_empty c =
    let findings = c.args.findings.now in
    let views = map finding_view findings in
    ends_outdated (list_any counts_as_shown views) (list_any counts views) (length c.args.outdated.now == 0)
    (sym (any_said counts_as_shown finding_view findings) ∙ sym c.has_shown.ensures ∙ c.if-has_shown.false)
    (sym (any_said counts finding_view findings) ∙ sym c.has_any.ensures ∙ c.if-has_any.false)
    (sym c.is_empty.ensures ∙ c.if-is_empty.false)
