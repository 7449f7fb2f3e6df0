use Rattle.std.proofs.Common.{length}
use Rattle.facet_solver_types.proofs.display.variant_name.+is_numbered.Given as goal

abbrev pub decreases-is_numbered : goal.decreases-is_numbered
decreases-is_numbered l = length l.name.now
