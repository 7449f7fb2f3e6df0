use Rattle.std.proofs.Common.{refl, true, arith}
use Rattle.std.proofs.Output.{has_written_of_eq, has_written_append}
use Rattle.facet_solver_tool.specs.Representations.{enum_line}
use Rattle.facet_solver_tool.proofs.ElementLines.{line_at_more}
use Rattle.facet_solver_tool.proofs.representation.EnumLinesDisplay.fmt.Goals as goal

-- one line more
pub loop-index-preserved : goal.loop-index-preserved
loop-index-preserved g c plain =
    let shapes = c.args.self.now.0.now in
    let so_far = c.loop-index.invariant plain in
    has_written_of_eq _ _ _ _ _
    (line_at_more enum_line shapes c.loop-index.index (omega arith))
    (has_written_append _ _ _ _ _ _ so_far (c.in_ok-write.ensures.writes so_far.plain (refl {a = true})))
