use Rattle.std.proofs.Common.{ap}
use Rattle.facet_solver_types.proofs.Views.{passage_of, rest_view}
use Rattle.facet_solver_types.proofs.passage.Passage.after.Goals as goal

pub returns-clause-value : goal.returns-clause-value
returns-clause-value c = ap (passage_of c.args.self.end) (rest_view c.args.self.tokens.now c.args.len)
