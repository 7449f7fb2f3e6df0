use Rattle.std.proofs.Common.{take}
use Rattle.std.specs.Fmt.{HasWritten, IsPlainFormatter}
use Rattle.std.specs.List.{flat_map}
use Rattle.facet_solver_types.specs.PrintedDeclarations.{declaration}
use Rattle.facet_solver_types.proofs.display.DeclarationsDisplay.fmt.Given as goal

-- the declarations so far are written
abbrev pub invariant-loop-index : goal.invariant-loop-index
invariant-loop-index g l =
    IsPlainFormatter l.initial.f
    → HasWritten g.W.Write.write_str_gives l.initial.f (flat_map (declaration l.self.0.now) (take l.index l.self.0.now)) l.f
