use Rattle.std.proofs.Common.{refl}
use Rattle.facet_solver_reader.specs.Known.{rest}
use Rattle.facet_solver_reader.specs.Views.{list_view}
use Rattle.facet_solver_reader.proofs.CountingObjects.{known_by_list}
use Rattle.facet_solver_reader.proofs.count.selection.branch_knows_rest.Goals as goal

pub returns-in-Some : goal.returns-in-Some
returns-in-Some c =
    known_by_list c.args.tables.now c.requires.tables (list_view c.args.branch) c.in-Some.list.now
    c.in-Some.ensures rest c.in-Some.list.now.takes_rest refl
