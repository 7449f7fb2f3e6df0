use Rattle.std.proofs.Common.{length}
use Rattle.facet_solver_types.proofs.display.variant_name.+is_decimal.Given as goal

abbrev pub decreases-is_decimal : goal.decreases-is_decimal
decreases-is_decimal l = length l.digits.now
