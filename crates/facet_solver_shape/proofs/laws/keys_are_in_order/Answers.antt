use Rattle.facet_solver_shape.proofs.Keys.{key_cmp_total, key_cmp_same, key_ties_equal}
use Rattle.facet_solver_shape.proofs.laws.keys_are_in_order.Goals as goal

pub returns-clause-ties_are_eq : goal.returns-clause-ties_are_eq
returns-clause-ties_are_eq c = key_ties_equal

pub returns-clause-total : goal.returns-clause-total
returns-clause-total c = key_cmp_total

pub returns-clause-ties_are_equal : goal.returns-clause-ties_are_equal
returns-clause-ties_are_equal c = key_cmp_same
