use Rattle.facet_solver_tool.specs.Questions.{question_view}
use Rattle.facet_solver_tool.proofs.Runs.{answers_file}
use Rattle.facet_solver_tool.proofs.run.answer_file.Goals as goal

pub returns : goal.returns
returns g c =
    answers_file (question_view c.args.question.now) c.args.types.now (g.I.Read.remaining c.args.input.now)
    (λ given. given.items) c.given-given.result c.answer_read.result
    c.given-given.ensures c.answer_read.ensures.read c.answer_read.ensures.unread
