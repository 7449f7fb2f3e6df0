use Rattle.facet_solver_reader.specs.Nodes.{value_of}
use Rattle.facet_solver_reader.proofs.why.object.none_taken.Goals as goal

pub returns-in-Map-clause-next : goal.returns-in-Map-clause-next
returns-in-Map-clause-next c =
    c.in_entries.ensures.next (value_of c.args.nodes.now c.args.object.now.node)
