use Rattle.std.proofs.Common.{All, arith, map, ◌≤◌, length}
use Rattle.facet_solver_reader.specs.Rules.{NamedVariant}
use Rattle.std.proofs.lemmas.List.{length-map}
use Rattle.facet_solver_reader.specs.Marks.{TargetIsMarked}
use Rattle.facet_solver_reader.specs.Views.{named_view}
use Rattle.facet_solver_reader.specs.Met.{TargetIsMet}
use Rattle.facet_solver_reader.proofs.StayMet.{one_of_all, stays_on}
use Rattle.facet_solver_reader.proofs.Marks.{added_on, each_all, each_more, target_still}
use Rattle.facet_solver_reader.proofs.tables.marks.Marks.mark_named.Goals as goal

pub loop-variant-preserved : goal.loop-variant-preserved
loop-variant-preserved c =
    let done = c.in_ok-mark_target.ensures in
    let new = c.mark_target.new.self in
    record {
      added = added_on c.args.every.now _ _ _ c.loop-variant.invariant.added done.added;
      marked =
          each_more (λ (v : NamedVariant). TargetIsMarked c.args.types.now c.args.every.now c.loop-variant.self v.content)
          (λ (v : NamedVariant). TargetIsMarked c.args.types.now c.args.every.now new v.content) named_view c.args.variants.now c.loop-variant.variant-index c.variant-item.result
          (λ (v : NamedVariant). target_still c.args.types.now c.args.every.now c.loop-variant.self new done.added.kept v.content) c.loop-variant.invariant.marked (omega arith) c.variant-item.is done.marked;
      met =
          stays_on c.args.types.now c.args.every.now _ _ _ (λ strict root. All (λ (v : NamedVariant). TargetIsMet c.args.types.now strict root v.content) (map named_view c.args.variants.now))
          (λ strict root. TargetIsMet c.args.types.now strict root (named_view c.variant-item.result).content)
          (λ strict root p. one_of_all (λ (v : NamedVariant). TargetIsMet c.args.types.now strict root v.content) named_view c.args.variants.now c.loop-variant.variant-index c.variant-item.result (omega arith) c.variant-item.is p)
          c.loop-variant.invariant.met done.met;
    }

pub returns-clause-marked : goal.returns-clause-marked
returns-clause-marked c =
    let past : length (map named_view c.args.variants.now) ≤ c.loop-variant.variant-index = omega (arith, length-map c.args.variants.now named_view) in
    each_all (λ (v : NamedVariant). TargetIsMarked c.args.types.now c.args.every.now c.loop-variant.self v.content) (map named_view c.args.variants.now) c.loop-variant.variant-index c.loop-variant.invariant.marked past
