use Rattle.std.proofs.Common.{arith}
use Rattle.facet_solver_reader.proofs.NodeNames.{by_name_rising}
use Rattle.facet_solver_reader.proofs.nodes.by_name.are_rising.Goals as goal

pub returns : goal.returns
returns c = λ _. by_name_rising c.args.named.now (λ k d within. c.loop-later.invariant k d (omega (arith, within, c.loop-later-test.false)))
