use Rattle.std.proofs.Common.{ap, option_map}
use Rattle.facet_solver_tool.proofs.Runs.{given_named, given_read}
use Rattle.facet_solver_tool.proofs.run.given.Goals as goal

pub returns-in-Some : goal.returns-in-Some
returns-in-Some g c =
    let question = c.args.question.now in
    given_named question.task (option_map (λ path. path.now) question.accepted) c.in-Some.path.now
    (g.I.Read.remaining c.args.input.now) (λ given. given.items) c.read.result (ap (option_map (λ path. path.now)) c.in-Some.is)

pub returns-in-None : goal.returns-in-None
returns-in-None g c =
    let question = c.args.question.now in
    given_read question.task (option_map (λ path. path.now) question.accepted)
    (g.I.Read.remaining c.args.input.now) (λ given. given.items) c.document.result
    (ap (option_map (λ path. path.now)) c.in-None.is) c.document.ensures
