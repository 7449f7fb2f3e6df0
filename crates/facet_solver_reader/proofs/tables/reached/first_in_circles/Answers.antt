use Rattle.std.proofs.Common.{◌∙◌, sym, arith}
use Rattle.facet_solver_reader.proofs.RankRounds.{end_here}
use Rattle.facet_solver_reader.proofs.tables.reached.first_in_circles.Goals as goal

pub returns-then-leads_in_circles-clause-reached : goal.returns-then-leads_in_circles-clause-reached
returns-then-leads_in_circles-clause-reached c =
    end_here c.args.ends.now.items c.loop-index.index c.new-id.result c.index.result.now (omega (arith, c.args.ends.now.ok.0)) c.index.ensures
    (sym c.is_some.ensures ∙ c.if-is_some.true) c.new-id.ensures
