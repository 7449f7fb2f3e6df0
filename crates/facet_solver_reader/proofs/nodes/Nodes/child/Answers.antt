use Rattle.std.proofs.Common.{arith}
use Rattle.facet_solver_reader.proofs.Numbering.{child_numbered}
use Rattle.facet_solver_reader.proofs.nodes.Nodes.child.Goals as goal

pub overflow_add-result : goal.overflow_add-result
overflow_add-result c =
    let nodes = c.args.self.now in
    omega (arith, nodes.nodes.ok.0, child_numbered nodes c.requires.numbering c.args.node c.index.result.now c.requires.in_range c.index.ensures c.args.index c.requires.index_in_range)

pub returns-clause-in_range : goal.returns-clause-in_range
returns-clause-in_range c =
    (child_numbered c.args.self.now c.requires.numbering c.args.node c.index.result.now c.requires.in_range c.index.ensures c.args.index c.requires.index_in_range).0

pub returns-clause-child : goal.returns-clause-child
returns-clause-child c =
    (child_numbered c.args.self.now c.requires.numbering c.args.node c.index.result.now c.requires.in_range c.index.ensures c.args.index c.requires.index_in_range).1
