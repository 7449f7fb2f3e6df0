use Rattle.std.proofs.Common.{take}
use Rattle.std.specs.Fmt.{HasWritten, IsPlainFormatter}
use Rattle.std.specs.List.{flat_map}
use Rattle.facet_solver_types.specs.PrintedFields.{later_unnamed}
use Rattle.facet_solver_types.proofs.display.field.LaterUnnamedDisplay.fmt.Given as goal

-- the fields so far are written
abbrev pub invariant-loop-field : goal.invariant-loop-field
invariant-loop-field g l =
    IsPlainFormatter l.initial.f
    → HasWritten g.W.Write.write_str_gives l.initial.f (flat_map (later_unnamed l.self.shapes.now) (take l.field-index l.field-items)) l.f
