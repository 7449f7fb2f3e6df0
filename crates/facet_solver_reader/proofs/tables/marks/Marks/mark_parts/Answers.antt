use Rattle.std.proofs.Common.{All, arith, map, ◌≤◌, length}
use Rattle.std.proofs.lemmas.List.{length-map}
use Rattle.facet_solver_reader.specs.Marks.{PartIsMarked}
use Rattle.facet_solver_reader.specs.Views.{part_view}
use Rattle.facet_solver_reader.specs.Met.{PartIsMet}
use Rattle.facet_solver_reader.proofs.StayMet.{one_of_all, stays_on}
use Rattle.facet_solver_reader.proofs.Marks.{added_on, each_all, each_more, part_still}
use Rattle.facet_solver_reader.proofs.tables.marks.Marks.mark_parts.Goals as goal

pub loop-part-preserved : goal.loop-part-preserved
loop-part-preserved c =
    let done = c.in_ok-mark_part.ensures in
    let new = c.mark_part.new.self in
    record {
      added = added_on c.args.every.now _ _ _ c.loop-part.invariant.added done.added;
      marked =
          each_more (PartIsMarked c.args.types.now c.args.every.now c.loop-part.self)
          (PartIsMarked c.args.types.now c.args.every.now new) part_view c.args.parts.now c.loop-part.part-index c.part-item.result
          (part_still c.args.types.now c.args.every.now c.loop-part.self new done.added.kept) c.loop-part.invariant.marked (omega arith) c.part-item.is done.marked;
      met =
          stays_on c.args.types.now c.args.every.now _ _ _ (λ strict root. All (PartIsMet c.args.types.now strict root) (map part_view c.args.parts.now)) (λ strict root. PartIsMet c.args.types.now strict root (part_view c.part-item.result))
          (λ strict root p. one_of_all (PartIsMet c.args.types.now strict root) part_view c.args.parts.now c.loop-part.part-index c.part-item.result (omega arith) c.part-item.is p)
          c.loop-part.invariant.met done.met;
    }

pub returns-clause-marked : goal.returns-clause-marked
returns-clause-marked c =
    let past : length (map part_view c.args.parts.now) ≤ c.loop-part.part-index = omega (arith, length-map c.args.parts.now part_view) in
    each_all (PartIsMarked c.args.types.now c.args.every.now c.loop-part.self) (map part_view c.args.parts.now) c.loop-part.part-index c.loop-part.invariant.marked past
