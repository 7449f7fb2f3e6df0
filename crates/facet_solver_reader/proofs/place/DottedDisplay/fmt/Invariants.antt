use Rattle.std.proofs.Common.{take, codes, ◌++◌}
use Rattle.std.specs.Fmt.{HasWritten, IsPlainFormatter}
use Rattle.std.specs.List.{flat_map}
use Rattle.facet_solver_reader.specs.Places.{step_of, step_text}
use Rattle.facet_solver_reader.proofs.place.DottedDisplay.fmt.Given as goal

-- the segments so far are written
abbrev pub invariant-loop-segment : goal.invariant-loop-segment
invariant-loop-segment g l =
    IsPlainFormatter l.initial.f → HasWritten g.W.Write.write_str_gives l.initial.f (flat_map (λ s. codes "." ++ step_text (step_of s)) (take l.segment-index l.segment-items)) l.f
