use Rattle.facet_solver_reader.proofs.Blaming.{listed_of_below}
use Rattle.facet_solver_reader.proofs.NamedParts.{part_named}
use Rattle.facet_solver_reader.proofs.why.object.none_in_list.Goals as goal

pub none_in_part-requires-clause-named : goal.none_in_part-requires-clause-named
none_in_part-requires-clause-named c =
    part_named c.args.tables.now c.requires.sound.tables c.args.list.now
    (listed_of_below c.args.tables.now c.requires.sound.tables c.args.asked.now.object
    c.args.list.now c.requires.below)
    c.deref-part-items.result.now c.deref-part-items.ensures.value c.loop-part.part-index
    c.part-item.result c.loop-part-test.true c.part-item.is
