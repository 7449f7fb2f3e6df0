use Rattle.std.proofs.Common.{◌≡◌, Ok, inl, sym, subst}
use Rattle.std.proofs.lemmas.Result.{IfOk-weaker}
use Rattle.facet_solver_shape.specs.Names.{names_of}
use Rattle.facet_solver_tool.specs.declared.arguments.Request as request
use Rattle.facet_solver_tool.specs.Answer.{answer_view}
use Rattle.facet_solver_tool.specs.Questions.{lines_view, question_view}
use Rattle.facet_solver_tool.specs.Requests.{Asks, ask, ask_lines, help, misuse_view, requested, version}
use Rattle.facet_solver_tool.specs.Runs.{AnswersOutcome, AnswersWords}
use Rattle.facet_solver_tool.specs.Streams.{told}
use Rattle.facet_solver_tool.proofs.Runs.{answers_misuse, ends_words}
use Rattle.facet_solver_tool.proofs.Told.{told_is}
use Rattle.facet_solver_tool.proofs.run.run_words.Goals as goal

pub returns-in-Ok-Help : goal.returns-in-Ok-Help
returns-in-Ok-Help g c =
    λ written.
    let input = g.I.Read.remaining c.args.input.now in
    let words = names_of c.args.words.now in
    let asked : requested words ≡ Ok help =
    subst (λ (r : request.Request). Asks (requested words) (Ok r)) c.in-Ok-Help.field-0-is c.in-Ok-Help.ensures in
    inl (
      told c.new.result,
      told_is (λ a. AnswersWords words input a) c.new.result
          (IfOk-weaker c.new.result _ _
          (λ a status. subst (λ o. AnswersOutcome o input (answer_view a)) (sym asked) status) c.new.ensures.status),
      c.tell.ensures written,
    )

pub returns-in-Ok-Version : goal.returns-in-Ok-Version
returns-in-Ok-Version g c =
    λ written.
    let input = g.I.Read.remaining c.args.input.now in
    let words = names_of c.args.words.now in
    let asked : requested words ≡ Ok version =
    subst (λ (r : request.Request). Asks (requested words) (Ok r)) c.in-Ok-Version.field-0-is c.in-Ok-Version.ensures in
    inl (
      told c.new-in-Ok-Version.result,
      told_is (λ a. AnswersWords words input a) c.new-in-Ok-Version.result
          (IfOk-weaker c.new-in-Ok-Version.result _ _
          (λ a status. subst (λ o. AnswersOutcome o input (answer_view a)) (sym asked) status) c.new-in-Ok-Version.ensures.status),
      c.tell-in-Ok-Version.ensures written,
    )

pub returns-in-Ok-Ask : goal.returns-in-Ok-Ask
returns-in-Ok-Ask g c =
    λ written.
    let input = g.I.Read.remaining c.args.input.now in
    let words = names_of c.args.words.now in
    let asked : requested words ≡ Ok (ask (question_view c.in-Ok-Ask.question)) =
    subst (λ (r : request.Request). Asks (requested words) (Ok r)) c.in-Ok-Ask.field-0-is c.in-Ok-Ask.ensures in
    let answered = c.answer_question-answer.result in
    inl (
      told answered,
      told_is (λ a. AnswersWords words input a) answered
          (IfOk-weaker answered _ _
          (λ a said. subst (λ o. AnswersOutcome o input (answer_view a)) (sym asked) said) c.answer_question-answer.ensures),
      c.tell-in-Ok-Ask.ensures written,
    )

pub returns-in-Ok-Lines : goal.returns-in-Ok-Lines
returns-in-Ok-Lines g c =
    λ written.
    let words = names_of c.args.words.now in
    let asked : requested words ≡ Ok (ask_lines (lines_view c.in-Ok-Lines.question)) =
    subst (λ (r : request.Request). Asks (requested words) (Ok r)) c.in-Ok-Lines.field-0-is c.in-Ok-Lines.ensures in
    ends_words words (lines_view c.in-Ok-Lines.question) _ asked (c.answer_lines.ensures written)

pub returns-in-Err : goal.returns-in-Err
returns-in-Err g c =
    λ written.
    let input = g.I.Read.remaining c.args.input.now in
    let words = names_of c.args.words.now in
    inl (
      told c.misused.result,
      told_is (λ a. AnswersWords words input a) c.misused.result
          (IfOk-weaker c.misused.result _ _
          (λ a said. answers_misuse _ (misuse_view c.in-Err.error) _ (answer_view a) c.in-Err.ensures said) c.misused.ensures),
      c.tell-in-Err.ensures written,
    )
