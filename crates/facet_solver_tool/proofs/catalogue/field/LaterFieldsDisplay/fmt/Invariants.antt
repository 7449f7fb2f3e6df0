use Rattle.std.proofs.Common.{codes, take}
use Rattle.std.specs.Fmt.{HasWritten, IsPlainFormatter}
use Rattle.std.specs.List.{flat_map}
use Rattle.facet_solver_tool.specs.FieldText.{field}
use Rattle.facet_solver_tool.specs.SeparatedTexts.{behind}
use Rattle.facet_solver_tool.proofs.catalogue.field.LaterFieldsDisplay.fmt.Given as goal

-- the fields so far are written
abbrev pub invariant-loop-field : goal.invariant-loop-field
invariant-loop-field g l =
    IsPlainFormatter l.initial.f
    → HasWritten g.W.Write.write_str_gives l.initial.f (flat_map (behind (codes ", ") field) (take l.field-index l.field-items)) l.f
