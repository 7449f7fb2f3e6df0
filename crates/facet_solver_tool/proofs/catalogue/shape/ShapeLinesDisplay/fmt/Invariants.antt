use Rattle.std.proofs.Common.{take}
use Rattle.std.specs.Fmt.{HasWritten, IsPlainFormatter}
use Rattle.facet_solver_tool.specs.ShapeText.{lines}
use Rattle.facet_solver_tool.proofs.catalogue.shape.ShapeLinesDisplay.fmt.Given as goal

-- the lines so far are written
abbrev pub invariant-loop-index : goal.invariant-loop-index
invariant-loop-index g l =
    IsPlainFormatter l.initial.f
    → HasWritten g.W.Write.write_str_gives l.initial.f (lines (take l.index l.self.0.now)) l.f
