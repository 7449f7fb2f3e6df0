use Rattle.std.proofs.Common.{codes, refl, true}
use Rattle.std.proofs.Output.{has_written_of_eq, has_written_append}
use Rattle.facet_solver_tool.specs.VariantText.{variant}
use Rattle.facet_solver_tool.specs.SeparatedTexts.{behind}
use Rattle.facet_solver_tool.proofs.Pieces.{piece_more}
use Rattle.facet_solver_tool.proofs.catalogue.variant.LaterVariantsDisplay.fmt.Goals as goal

-- one variant more
pub loop-variant-preserved : goal.loop-variant-preserved
loop-variant-preserved g c plain =
    let so_far = c.loop-variant.invariant plain in
    has_written_of_eq _ _ _ _ _
    (piece_more (behind (codes ", ") variant) c.args.self.now.0.now c.loop-variant.variant-index c.variant-item.result c.loop-variant-test.true c.variant-item.is)
    (has_written_append _ _ _ _ _ _ so_far (c.in_ok-write.ensures.writes so_far.plain (refl {a = true})))
