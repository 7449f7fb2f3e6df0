use Rattle.std.proofs.Common.{subst}
use Rattle.facet_solver_tool.specs.RootAnswers.{AnswersRead, root_at}
use Rattle.facet_solver_tool.proofs.EachLine.{AnswersLines-weaker}
use Rattle.facet_solver_tool.proofs.lines.answer_types.Goals as goal

pub returns : goal.returns
returns g c =
    λ written.
    let said = c.answer_root.ensures written in
    let question = c.args.question.now in (
      said.0,
      AnswersLines-weaker
          (λ line a answers.
          subst (λ id. AnswersRead (root_at question.types.now c.args.types.now id) question.unknown line a) c.root-id.ensures answers) said.1,
    )
