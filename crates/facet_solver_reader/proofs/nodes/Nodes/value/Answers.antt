use Rattle.facet_solver_reader.proofs.Numbering.{value_read}
use Rattle.facet_solver_reader.proofs.nodes.Nodes.value.Goals as goal

pub returns : goal.returns
returns c = value_read c.args.self.now c.args.node c.index.result.now c.requires c.index.ensures
