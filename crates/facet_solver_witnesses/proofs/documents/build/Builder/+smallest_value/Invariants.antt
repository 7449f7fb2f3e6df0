-- How far each function is from its end: by the levels that are left, and at one level by the
-- number of the list, since a list has a higher number than those of its branches.
use Rattle.std.proofs.Common.{◌+◌, ◌*◌, ◌^◌}
use Rattle.facet_solver_witnesses.proofs.documents.build.Builder.+smallest_value.Given as goal

abbrev pub decreases-push_member : goal.decreases-push_member
decreases-push_member l = 2 ^ 66 * l.levels + 1

abbrev pub decreases-push_selection : goal.decreases-push_selection
decreases-push_selection l = 2 ^ 66 * l.levels + 2 * l.list + 3

abbrev pub decreases-push_smallest : goal.decreases-push_smallest
decreases-push_smallest l = 2 ^ 66 * l.levels + 2 * l.list + 4

abbrev pub decreases-smallest : goal.decreases-smallest
decreases-smallest l = 2 ^ 66 * l.levels

abbrev pub decreases-smallest_list : goal.decreases-smallest_list
decreases-smallest_list l = 2 ^ 66 * l.levels + 1

abbrev pub decreases-smallest_object : goal.decreases-smallest_object
decreases-smallest_object l = 2 ^ 66 * l.levels + 2 ^ 65 + 5
