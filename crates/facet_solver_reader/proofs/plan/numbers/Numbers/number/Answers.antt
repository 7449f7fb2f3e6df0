use Rattle.std.proofs.Common.{subst, sym}
use Rattle.facet_solver_reader.specs.Parts.{Target}
use Rattle.facet_solver_reader.specs.Reached.{IsRanked}
use Rattle.facet_solver_reader.specs.Tables.{rules_at}
use Rattle.facet_solver_reader.specs.Views.{target_view}
use Rattle.facet_solver_reader.proofs.TableRanks.{ranked_target}
use Rattle.facet_solver_reader.proofs.plan.numbers.Numbers.number.Goals as goal

pub number_within-requires-clause-ranked : goal.number_within-requires-clause-ranked
number_within-requires-clause-ranked c =
    let t = c.args.tables.now in
    subst (λ (u : Target). IsRanked t.steps (rules_at t) u) (sym c.of.ensures)
    (ranked_target t (target_view c.args.target.now) c.requires.tables c.requires.served)
