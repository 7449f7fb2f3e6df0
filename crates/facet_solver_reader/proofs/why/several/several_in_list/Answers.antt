use Rattle.std.proofs.Common.{ap, map}
use Rattle.facet_solver_reader.specs.Views.{part_view, parts_view}
use Rattle.facet_solver_reader.specs.Blaming.{IsNext}
use Rattle.facet_solver_reader.specs.declared.count.Count.TheVariants.{Several as TwoCount}
use Rattle.facet_solver_reader.proofs.Blaming.{either_found, listed_of_below, part_served}
use Rattle.facet_solver_reader.proofs.CountingObjects.{seen_read}
use Rattle.facet_solver_reader.proofs.why.several.several_in_list.Goals as goal

pub several_in_part-requires-clause-served : goal.several_in_part-requires-clause-served
several_in_part-requires-clause-served c =
    let t = c.args.tables.now in
    let l = c.args.list.now in
    let ps = parts_view l.parts.items in
    let i = c.loop-part.part-index in
    let at = seen_read part_view c.deref-part-items.result.now ps i c.part-item.result
    (ap (map part_view) c.deref-part-items.ensures.value) c.loop-part-test.true c.part-item.is in
    part_served t c.requires.sound.tables l (part_view c.part-item.result)
    (listed_of_below t c.requires.sound.tables c.args.object.now l c.requires.below) (i, at)

pub loop-part-preserved : goal.loop-part-preserved
loop-part-preserved c =
    record {
      sound = c.several_in_part.ensures.sound;
      found = λ v.
          either_found (IsNext c.args.tables.now c.args.nodes.now TwoCount v) c.loop-part.first
          c.in_ok-next.next c.earlier-first.result c.earlier-first.ensures
          (c.loop-part.invariant.found v) (c.in_ok-next.ensures.next v);
    }
