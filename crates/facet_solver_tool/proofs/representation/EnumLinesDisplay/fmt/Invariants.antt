use Rattle.std.proofs.Common.{take}
use Rattle.std.specs.Fmt.{HasWritten, IsPlainFormatter}
use Rattle.std.specs.List.{flat_map}
use Rattle.facet_solver_tool.specs.Representations.{enum_line}
use Rattle.facet_solver_tool.proofs.representation.EnumLinesDisplay.fmt.Given as goal

-- the lines so far are written
abbrev pub invariant-loop-index : goal.invariant-loop-index
invariant-loop-index g l =
    IsPlainFormatter l.initial.f
    → HasWritten g.W.Write.write_str_gives l.initial.f (flat_map enum_line (take l.index l.self.0.now)) l.f
