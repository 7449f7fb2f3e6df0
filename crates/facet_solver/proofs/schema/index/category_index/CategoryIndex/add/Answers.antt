use Rattle.std.proofs.Common.{None, Some}
use Rattle.facet_solver.proofs.schema.index.category_index.CategoryIndex.add.Goals as goal

pub add_named-requires-clause-bounds : goal.add_named-requires-clause-bounds
add_named-requires-clause-bounds c = λ name. c.requires.bounds (Some name)

pub add_to_all-requires-clause-bound : goal.add_to_all-requires-clause-bound
add_to_all-requires-clause-bound c = c.requires.bounds None
