use Rattle.std.proofs.Common.{take}
use Rattle.facet_solver_types.specs.Mentioned.{AddsMarks}
use Rattle.facet_solver_types.proofs.typing.mentioned.mark_others.Given as goal

-- those so far
abbrev pub invariant-loop-index : goal.invariant-loop-index
invariant-loop-index l =
    AddsMarks l.initial.marks l.marks l.by (take l.index-index l.indices)
