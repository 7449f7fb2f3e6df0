use Rattle.std.proofs.Common.{ℕ}
use Rattle.facet_solver_types.proofs.typing.flattened.+members.Given as goal

abbrev pub decreases-members : goal.decreases-members
decreases-members l = l.levels
