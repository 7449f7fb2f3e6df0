use Rattle.std.proofs.Common.{replicate}
use Rattle.std.specs.Fmt.{HasWritten, IsPlainFormatter}
use Rattle.facet_solver_types.specs.Cases.{underscore}
use Rattle.facet_solver_types.proofs.display.variant_name.MarksDisplay.fmt.Given as goal

-- the marks so far are written
abbrev pub invariant-loop-mark : goal.invariant-loop-mark
invariant-loop-mark g l =
    IsPlainFormatter l.initial.f
    → HasWritten g.W.Write.write_str_gives l.initial.f (replicate l._mark underscore) l.f
