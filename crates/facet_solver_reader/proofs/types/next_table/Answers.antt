use Rattle.facet_solver_reader.specs.JoinTables.{says}
use Rattle.facet_solver_reader.specs.Types.{all_join_at, joins_where}
use Rattle.facet_solver_reader.proofs.JoinsByTable.{pushed}
use Rattle.facet_solver_reader.proofs.types.next_table.Goals as goal

pub loop-index-preserved : goal.loop-index-preserved
loop-index-preserved c =
    let shapes = c.args.shapes.now in
    pushed (all_join_at (joins_where (says c.args.table.now) shapes) shapes) c.loop-index.index c.new.result c.all_join_at.result _ _
    c.in_ok-push.ensures.items c.loop-index.invariant c.new.ensures c.all_join_at.ensures
