use Rattle.std.proofs.Common.{◌≡◌, ap, ◌∙◌, zero}
use Rattle.std.specs.List.{list_all}
use Rattle.facet_solver_reader.specs.Types.{all_join_at, joins_within}
use Rattle.facet_solver_reader.proofs.JoinsByTable.{none_at_first, pushed}
use Rattle.facet_solver_reader.proofs.types.first_table.Goals as goal

pub loop-index-preserved : goal.loop-index-preserved
loop-index-preserved c =
    let shapes = c.args.shapes.now in
    let is : c.is_empty.result ≡ all_join_at (joins_within zero shapes) shapes c.new.result =
    c.is_empty.ensures
    ∙ none_at_first shapes c.variants_at.result.now
    ∙ ap (list_all (joins_within zero shapes)) c.variants_at.ensures
    in
    pushed (all_join_at (joins_within zero shapes) shapes) c.loop-index.index c.new.result c.is_empty.result _ _
    c.in_ok-push.ensures.items c.loop-index.invariant c.new.ensures is
