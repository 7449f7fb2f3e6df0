use Rattle.std.proofs.Common.{◌≡◌, ◌++◌, ◌∷◌, [], ◌≤◌, arith, length, rules}
use Rattle.facet_solver_reader.specs.PlanNumbers.{HasNumber, meaning_of}
use Rattle.facet_solver_reader.specs.Plans.{IsPlannedName}
use Rattle.facet_solver_reader.specs.Rules.{NamedVariant}
use Rattle.facet_solver_reader.specs.Views.{named_view}
use Rattle.facet_solver_reader.proofs.Pairs.{pairs_all, pairs_pushed}
use Rattle.facet_solver_reader.proofs.StayMet.{one_of_all}
use Rattle.facet_solver_reader.proofs.plan.targets.planned_names.Goals as goal

pub planned_name-planned-requires-clause-numbered : goal.planned_name-planned-requires-clause-numbered
planned_name-planned-requires-clause-numbered c =
    one_of_all (λ (v : NamedVariant). HasNumber c.args.numbers.now v.content) named_view c.args.variants.now
    c.loop-variant.variant-index c.variant-item.result c.loop-variant-test.true c.variant-item.is
    c.requires.numbered

pub loop-variant-preserved : goal.loop-variant-preserved
loop-variant-preserved c =
    let old = c.loop-variant.names.items in
    let planned = c.planned_name-planned.result in
    let pushed : c.push.new.self.items ≡ old ++ planned ∷ [] = search rules in
    pairs_pushed (IsPlannedName (meaning_of c.args.tables.now c.args.numbers.now)) named_view
    c.args.variants.now c.loop-variant.variant-index c.variant-item.result old planned
    c.push.new.self.items pushed c.loop-variant-test.true c.variant-item.is c.loop-variant.invariant
    c.planned_name-planned.ensures

pub returns : goal.returns
returns c =
    let past : length c.args.variants.now ≤ c.loop-variant.variant-index =
    omega (arith, c.loop-variant-test.false) in
    pairs_all (IsPlannedName (meaning_of c.args.tables.now c.args.numbers.now)) named_view
    c.args.variants.now c.loop-variant.variant-index c.loop-variant.names.items past c.loop-variant.invariant
