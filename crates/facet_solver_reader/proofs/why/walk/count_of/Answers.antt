use Rattle.facet_solver_reader.specs.Views.{target_view}
use Rattle.facet_solver_reader.proofs.TableRanks.{ranked_target}
use Rattle.facet_solver_reader.proofs.why.walk.count_of.Goals as goal

pub count_target-requires-clause-ranked : goal.count_target-requires-clause-ranked
count_target-requires-clause-ranked c =
    ranked_target c.args.tables.now (target_view c.args.target.now) c.requires.sound.tables
    c.requires.served
