use Rattle.std.proofs.Common.{take, codes, ◌++◌}
use Rattle.std.specs.Fmt.{HasWritten, IsPlainFormatter}
use Rattle.std.specs.List.{flat_map}
use Rattle.facet_solver_shape.specs.Paths.{segment_of, segment_text}
use Rattle.facet_solver_shape.proofs.resolution.path.DottedDisplay.fmt.Given as goal

-- the segments so far are written
abbrev pub invariant-loop-segment : goal.invariant-loop-segment
invariant-loop-segment g l =
    IsPlainFormatter l.initial.f → HasWritten g.W.Write.write_str_gives l.initial.f (flat_map (λ s. codes "." ++ segment_text (segment_of s)) (take l.segment-index l.segment-items)) l.f
