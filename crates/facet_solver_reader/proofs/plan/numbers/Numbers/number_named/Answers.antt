use Rattle.std.proofs.Common.{arith, map, ◌≤◌, length}
use Rattle.std.proofs.lemmas.List.{length-map}
use Rattle.facet_solver_reader.specs.Rules.{NamedVariant}
use Rattle.facet_solver_reader.specs.PlanNumbers.{HasNumber}
use Rattle.facet_solver_reader.specs.Tables.{IsServed}
use Rattle.facet_solver_reader.specs.Views.{named_view}
use Rattle.facet_solver_reader.proofs.Marks.{each_all, each_more}
use Rattle.facet_solver_reader.proofs.PlanNumbers.{more_on}
use Rattle.facet_solver_reader.proofs.StayMet.{one_of_all}
use Rattle.facet_solver_reader.proofs.plan.numbers.Numbers.number_named.Goals as goal

pub number-requires-clause-served : goal.number-requires-clause-served
number-requires-clause-served c =
    one_of_all (λ (v : NamedVariant). IsServed c.args.tables.now v.content) named_view c.args.variants.now c.loop-variant.variant-index
    c.variant-item.result c.loop-variant-test.true c.variant-item.is c.requires.served

pub loop-variant-preserved : goal.loop-variant-preserved
loop-variant-preserved c =
    let old = c.loop-variant.self in
    let new = c.number.new.self in
    let done = c.in_ok-number.ensures in
    record {
      more = more_on c.args.tables.now c.args.self.now old new c.loop-variant.invariant.more done.more;
      numbered =
          each_more (λ (v : NamedVariant). HasNumber old v.content) (λ (v : NamedVariant). HasNumber new v.content) named_view c.args.variants.now
          c.loop-variant.variant-index c.variant-item.result (λ x h. done.more.kept x.content h)
          c.loop-variant.invariant.numbered c.loop-variant-test.true c.variant-item.is done.numbered;
    }

pub returns-clause-numbered : goal.returns-clause-numbered
returns-clause-numbered c =
    let past : length (map named_view c.args.variants.now) ≤ c.loop-variant.variant-index =
    omega (arith, length-map c.args.variants.now named_view, c.loop-variant-test.false) in
    each_all (λ (v : NamedVariant). HasNumber c.loop-variant.self v.content) (map named_view c.args.variants.now)
    c.loop-variant.variant-index c.loop-variant.invariant.numbered past
