use Rattle.facet_solver.proofs.NestedTable.{entry_stands}
use Rattle.facet_solver.proofs.build.nested.table.Earlier.under.Goals as goal

pub returns : goal.returns
returns c = entry_stands c.args.self c.args.id c.under_at.result.now c.requires.sound c.under_at.ensures
