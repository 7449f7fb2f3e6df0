-- What is kept is right.
use Rattle.facet_solver_reader.specs.declared.count.Count.TheVariants.{One}
use Rattle.facet_solver_reader.specs.Nodes.{value_of}
use Rattle.facet_solver_reader.specs.Parts.{of_shape}
use Rattle.facet_solver_reader.proofs.CountingValues.{sound_added}
use Rattle.facet_solver_reader.proofs.read.known.keep_read.Goals as goal

pub loop-index-preserved : goal.loop-index-preserved
loop-index-preserved c =
    sound_added c.args.tables.now c.args.nodes.now c.loop-index.memo.entries.items
    c.put.new.self.entries.items c.child.result (of_shape c.args.shape) One
    c.loop-index.invariant c.in_ok-put.ensures.ok
    (c.requires.once c.loop-index.index (value_of c.args.nodes.now c.child.result)
    c.loop-index-test.true c.child.ensures.child)
