use Rattle.std.proofs.Common.{◌≡◌, ◌++◌, ◌∷◌, [], ◌≤◌, arith, length, rules}
use Rattle.facet_solver_reader.specs.PlanNumbers.{HasNumber, meaning_of}
use Rattle.facet_solver_reader.specs.Plans.{IsPlannedAlternative}
use Rattle.facet_solver_reader.specs.Rules.{Alternative}
use Rattle.facet_solver_reader.specs.Views.{alternative_view}
use Rattle.facet_solver_reader.proofs.Pairs.{pairs_all, pairs_pushed}
use Rattle.facet_solver_reader.proofs.StayMet.{one_of_all}
use Rattle.facet_solver_reader.proofs.plan.targets.planned_alternatives.Goals as goal

pub planned_alternative-planned-requires-clause-numbered : goal.planned_alternative-planned-requires-clause-numbered
planned_alternative-planned-requires-clause-numbered c =
    one_of_all (λ (v : Alternative). HasNumber c.args.numbers.now v.content) alternative_view c.args.alone.now
    c.loop-alternative.alternative-index c.alternative-item.result c.loop-alternative-test.true c.alternative-item.is
    c.requires.numbered

pub loop-alternative-preserved : goal.loop-alternative-preserved
loop-alternative-preserved c =
    let old = c.loop-alternative.alternatives.items in
    let planned = c.planned_alternative-planned.result in
    let pushed : c.push.new.self.items ≡ old ++ planned ∷ [] = search rules in
    pairs_pushed (IsPlannedAlternative (meaning_of c.args.tables.now c.args.numbers.now)) alternative_view
    c.args.alone.now c.loop-alternative.alternative-index c.alternative-item.result old planned
    c.push.new.self.items pushed c.loop-alternative-test.true c.alternative-item.is c.loop-alternative.invariant
    c.planned_alternative-planned.ensures

pub returns : goal.returns
returns c =
    let past : length c.args.alone.now ≤ c.loop-alternative.alternative-index =
    omega (arith, c.loop-alternative-test.false) in
    pairs_all (IsPlannedAlternative (meaning_of c.args.tables.now c.args.numbers.now)) alternative_view
    c.args.alone.now c.loop-alternative.alternative-index c.loop-alternative.alternatives.items past c.loop-alternative.invariant
