use Rattle.std.proofs.Common.{codes, take}
use Rattle.std.specs.Fmt.{HasWritten, IsPlainFormatter}
use Rattle.std.specs.List.{flat_map}
use Rattle.facet_solver_tool.specs.AmbiguityKeys.{full_name}
use Rattle.facet_solver_tool.specs.SeparatedTexts.{behind}
use Rattle.facet_solver_tool.proofs.check.key.LaterNamesDisplay.fmt.Given as goal

-- the names so far are written
abbrev pub invariant-loop-variant : goal.invariant-loop-variant
invariant-loop-variant g l =
    IsPlainFormatter l.initial.f
    → HasWritten g.W.Write.write_str_gives l.initial.f (flat_map (behind (codes ", ") full_name) (take l.variant-index l.variant-items)) l.f
