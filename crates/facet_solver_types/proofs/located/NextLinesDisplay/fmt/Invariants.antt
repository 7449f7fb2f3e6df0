use Rattle.std.proofs.Common.{take}
use Rattle.std.specs.Fmt.{HasWritten, IsPlainFormatter}
use Rattle.std.specs.List.{flat_map}
use Rattle.facet_solver_types.specs.LocatedTexts.{next_located}
use Rattle.facet_solver_types.proofs.located.NextLinesDisplay.fmt.Given as goal

-- the lines so far are written
abbrev pub invariant-loop-invalid : goal.invariant-loop-invalid
invariant-loop-invalid g l =
    IsPlainFormatter l.initial.f
    → HasWritten g.W.Write.write_str_gives l.initial.f (flat_map (next_located l.self.path.now) (take l.invalid-index l.invalid-items)) l.f
