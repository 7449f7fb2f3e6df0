-- How far each function is from its end: by the levels that are left.
use Rattle.std.proofs.Common.{◌+◌, ◌*◌}
use Rattle.facet_solver_witnesses.proofs.documents.build.Builder.+common_value.Given as goal

abbrev pub decreases-common : goal.decreases-common
decreases-common l = 4 * l.levels + 1

abbrev pub decreases-common_at : goal.decreases-common_at
decreases-common_at l = 4 * l.levels + 2

abbrev pub decreases-items : goal.decreases-items
decreases-items l = 4 * l.levels + 3

abbrev pub decreases-made : goal.decreases-made
decreases-made l = 4 * l.levels

abbrev pub decreases-members : goal.decreases-members
decreases-members l = 4 * l.levels + 3
