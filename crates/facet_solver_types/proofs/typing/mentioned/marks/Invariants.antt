use Rattle.std.proofs.Common.{take}
use Rattle.facet_solver_types.specs.Links.{links_view}
use Rattle.facet_solver_types.specs.Mentioned.{AreMentioned}
use Rattle.facet_solver_types.proofs.typing.mentioned.marks.Given as goal

-- those that the first mention
abbrev pub invariant-loop-by : goal.invariant-loop-by
invariant-loop-by l = AreMentioned (links_view (take l.by l.links)) l.marks.items
