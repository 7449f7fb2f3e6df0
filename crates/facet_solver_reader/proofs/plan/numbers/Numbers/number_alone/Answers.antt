use Rattle.std.proofs.Common.{arith, map, ◌≤◌, length}
use Rattle.std.proofs.lemmas.List.{length-map}
use Rattle.facet_solver_reader.specs.Rules.{Alternative}
use Rattle.facet_solver_reader.specs.PlanNumbers.{HasNumber}
use Rattle.facet_solver_reader.specs.Tables.{IsServed}
use Rattle.facet_solver_reader.specs.Views.{alternative_view}
use Rattle.facet_solver_reader.proofs.Marks.{each_all, each_more}
use Rattle.facet_solver_reader.proofs.PlanNumbers.{more_on}
use Rattle.facet_solver_reader.proofs.StayMet.{one_of_all}
use Rattle.facet_solver_reader.proofs.plan.numbers.Numbers.number_alone.Goals as goal

pub number-requires-clause-served : goal.number-requires-clause-served
number-requires-clause-served c =
    one_of_all (λ (v : Alternative). IsServed c.args.tables.now v.content) alternative_view c.args.alone.now c.loop-alternative.alternative-index
    c.alternative-item.result c.loop-alternative-test.true c.alternative-item.is c.requires.served

pub loop-alternative-preserved : goal.loop-alternative-preserved
loop-alternative-preserved c =
    let old = c.loop-alternative.self in
    let new = c.number.new.self in
    let done = c.in_ok-number.ensures in
    record {
      more = more_on c.args.tables.now c.args.self.now old new c.loop-alternative.invariant.more done.more;
      numbered =
          each_more (λ (v : Alternative). HasNumber old v.content) (λ (v : Alternative). HasNumber new v.content) alternative_view c.args.alone.now
          c.loop-alternative.alternative-index c.alternative-item.result (λ x h. done.more.kept x.content h)
          c.loop-alternative.invariant.numbered c.loop-alternative-test.true c.alternative-item.is done.numbered;
    }

pub returns-clause-numbered : goal.returns-clause-numbered
returns-clause-numbered c =
    let past : length (map alternative_view c.args.alone.now) ≤ c.loop-alternative.alternative-index =
    omega (arith, length-map c.args.alone.now alternative_view, c.loop-alternative-test.false) in
    each_all (λ (v : Alternative). HasNumber c.loop-alternative.self v.content) (map alternative_view c.args.alone.now)
    c.loop-alternative.alternative-index c.loop-alternative.invariant.numbered past
