use Rattle.std.proofs.Common.{◌∙◌, ap, subst, All}
use Rattle.std.specs.FinMap.{entries}
use Rattle.std.proofs.lemmas.List.Elements.{All-from_recursion}
use Rattle.facet_solver_shape.specs.Fields.{IsStored}
use Rattle.facet_solver_shape.proofs.Fields.{entries_of_table}
use Rattle.facet_solver_shape.proofs.resolution.tables.field_map.FieldMap.as_map.Goals as goal

pub returns-clause-in_order : goal.returns-clause-in_order
returns-clause-in_order c = entries_of_table c.self.inside.entries.entries c.self.invariant ∙ ap entries c.self.view_is

pub returns-clause-stored : goal.returns-clause-stored
returns-clause-stored c = subst (All IsStored) (returns-clause-in_order c) (All-from_recursion IsStored _ c.self.invariant.stored)
