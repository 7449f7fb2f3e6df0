use Rattle.std.proofs.Common.{All, arith, map, ◌≤◌, length}
use Rattle.facet_solver_reader.specs.Rules.{Alternative}
use Rattle.std.proofs.lemmas.List.{length-map}
use Rattle.facet_solver_reader.specs.Marks.{TargetIsMarked}
use Rattle.facet_solver_reader.specs.Views.{alternative_view}
use Rattle.facet_solver_reader.specs.Met.{TargetIsMet}
use Rattle.facet_solver_reader.proofs.StayMet.{one_of_all, stays_on}
use Rattle.facet_solver_reader.proofs.Marks.{added_on, each_all, each_more, target_still}
use Rattle.facet_solver_reader.proofs.tables.marks.Marks.mark_alone.Goals as goal

pub loop-alternative-preserved : goal.loop-alternative-preserved
loop-alternative-preserved c =
    let done = c.in_ok-mark_target.ensures in
    let new = c.mark_target.new.self in
    record {
      added = added_on c.args.every.now _ _ _ c.loop-alternative.invariant.added done.added;
      marked =
          each_more (λ (v : Alternative). TargetIsMarked c.args.types.now c.args.every.now c.loop-alternative.self v.content)
          (λ (v : Alternative). TargetIsMarked c.args.types.now c.args.every.now new v.content) alternative_view c.args.alone.now c.loop-alternative.alternative-index c.alternative-item.result
          (λ (v : Alternative). target_still c.args.types.now c.args.every.now c.loop-alternative.self new done.added.kept v.content) c.loop-alternative.invariant.marked (omega arith) c.alternative-item.is done.marked;
      met =
          stays_on c.args.types.now c.args.every.now _ _ _ (λ strict root. All (λ (v : Alternative). TargetIsMet c.args.types.now strict root v.content) (map alternative_view c.args.alone.now))
          (λ strict root. TargetIsMet c.args.types.now strict root (alternative_view c.alternative-item.result).content)
          (λ strict root p. one_of_all (λ (v : Alternative). TargetIsMet c.args.types.now strict root v.content) alternative_view c.args.alone.now c.loop-alternative.alternative-index c.alternative-item.result (omega arith) c.alternative-item.is p)
          c.loop-alternative.invariant.met done.met;
    }

pub returns-clause-marked : goal.returns-clause-marked
returns-clause-marked c =
    let past : length (map alternative_view c.args.alone.now) ≤ c.loop-alternative.alternative-index = omega (arith, length-map c.args.alone.now alternative_view) in
    each_all (λ (v : Alternative). TargetIsMarked c.args.types.now c.args.every.now c.loop-alternative.self v.content) (map alternative_view c.args.alone.now) c.loop-alternative.alternative-index c.loop-alternative.invariant.marked past
