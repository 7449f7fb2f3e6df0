use Rattle.std.proofs.Common.{refl, length, get_or, arith}
use Rattle.std.proofs.lemmas.Option.{slice_get_read, slice_get_within}
use Rattle.facet_solver_reader.proofs.CountingObjects.{listed_below}
use Rattle.facet_solver_reader.proofs.why.naming.namings.Goals as goal

pub index-list-requires : goal.index-list-requires
index-list-requires c =
    let tb = c.args.tables.now in
    let position = c.loop-index.index-index in
    let xs = c.deref-index-items.result.now in
    let b = listed_below tb c.args.nodes.now c.args.object.now c.requires.object
    c.requires.sound.tables position xs c.deref-index-items.ensures.value c.loop-index-test.true in
    let within = slice_get_within tb.lists.items (get_or xs position 0) b.0 b.2 in
    omega (arith, within)

pub naming_of-requires-clause-listed : goal.naming_of-requires-clause-listed
naming_of-requires-clause-listed c =
    let tb = c.args.tables.now in
    let position = c.loop-index.index-index in
    let xs = c.deref-index-items.result.now in
    let b = listed_below tb c.args.nodes.now c.args.object.now c.requires.object
    c.requires.sound.tables position xs c.deref-index-items.ensures.value c.loop-index-test.true in
    let index = get_or xs position 0 in
    record {
      index = index;
      listed =
          slice_get_read tb.lists.items (length tb.lists.items) index c.index-list.result.now refl
          (slice_get_within tb.lists.items index b.0 b.2) c.index-list.ensures;
    }
