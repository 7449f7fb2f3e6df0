use Rattle.std.proofs.Common.{◌≡◌, ◌∙◌, ap, subst}
use Rattle.std.proofs.lemmas.Result.{IfOk-weaker}
use Rattle.facet_solver_tool.specs.Checks.{lines_view, status_of}
use Rattle.facet_solver_tool.specs.InputLines.{lines_of}
use Rattle.facet_solver_tool.proofs.TypesAlone.{empty_of, tells_if}
use Rattle.facet_solver_tool.proofs.check.answer_reports.Goals as goal

pub returns : goal.returns
returns c =
    IfOk-weaker c.answer_lines.result _ _
    (λ a said. (
      subst (λ lines. a.status ≡ status_of lines c.args.reports.now.asked.ambiguities.items)
          (ap lines_view c.deref.ensures.value ∙ c.in_ok-lines.ensures) said.0,
      tells_if c.args.form _ _
          (λ none. (
            c.deref.ensures.value
                ∙ empty_of (λ line. line.now) c.in_ok-lines.lines.items (c.in_ok-lines.ensures ∙ ap lines_of none.0),
            none.1,
          ))
          said.1,
    ))
    c.answer_lines.ensures
