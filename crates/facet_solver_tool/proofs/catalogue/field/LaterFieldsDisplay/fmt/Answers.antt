use Rattle.std.proofs.Common.{codes, refl, true}
use Rattle.std.proofs.Output.{has_written_of_eq, has_written_append}
use Rattle.facet_solver_tool.specs.FieldText.{field}
use Rattle.facet_solver_tool.specs.SeparatedTexts.{behind}
use Rattle.facet_solver_tool.proofs.Pieces.{piece_more}
use Rattle.facet_solver_tool.proofs.catalogue.field.LaterFieldsDisplay.fmt.Goals as goal

-- one field more
pub loop-field-preserved : goal.loop-field-preserved
loop-field-preserved g c plain =
    let so_far = c.loop-field.invariant plain in
    has_written_of_eq _ _ _ _ _
    (piece_more (behind (codes ", ") field) c.args.self.now.0.now c.loop-field.field-index c.field-item.result c.loop-field-test.true c.field-item.is)
    (has_written_append _ _ _ _ _ _ so_far (c.in_ok-write.ensures.writes so_far.plain (refl {a = true})))
