use Rattle.facet_solver_reader.specs.Views.{list_view}
use Rattle.facet_solver_reader.proofs.Lacking.{tag_required}
use Rattle.facet_solver_reader.proofs.why.tag.tag_of.Goals as goal

pub returns : goal.returns
returns c =
    tag_required c.args.tables.now (list_view c.args.branch) c.in_ok-list.list.now c.tag_in.result
    c.requires.tables c.in_ok-list.ensures c.tag_in.ensures
