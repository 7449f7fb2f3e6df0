use Rattle.std.proofs.Common.{arith, map, ◌≤◌, length}
use Rattle.std.proofs.lemmas.List.{length-map}
use Rattle.facet_solver_reader.specs.PlanNumbers.{PartIsNumbered}
use Rattle.facet_solver_reader.specs.Tables.{PartIsServed}
use Rattle.facet_solver_reader.specs.Views.{part_view}
use Rattle.facet_solver_reader.proofs.Marks.{each_all, each_more}
use Rattle.facet_solver_reader.proofs.PlanNumbers.{more_on, part_kept}
use Rattle.facet_solver_reader.proofs.StayMet.{one_of_all}
use Rattle.facet_solver_reader.proofs.plan.numbers.Numbers.number_members.Goals as goal

pub number_part-requires-clause-served : goal.number_part-requires-clause-served
number_part-requires-clause-served c =
    one_of_all (PartIsServed c.args.tables.now) part_view c.args.parts.now c.loop-part.part-index
    c.part-item.result c.loop-part-test.true c.part-item.is c.requires.served

pub loop-part-preserved : goal.loop-part-preserved
loop-part-preserved c =
    let old = c.loop-part.self in
    let new = c.number_part.new.self in
    let done = c.in_ok-number_part.ensures in
    record {
      more = more_on c.args.tables.now c.args.self.now old new c.loop-part.invariant.more done.more;
      numbered =
          each_more (PartIsNumbered old) (PartIsNumbered new) part_view c.args.parts.now
          c.loop-part.part-index c.part-item.result (λ p h. part_kept c.args.tables.now old new done.more p h)
          c.loop-part.invariant.numbered c.loop-part-test.true c.part-item.is done.numbered;
    }

pub returns-clause-numbered : goal.returns-clause-numbered
returns-clause-numbered c =
    let past : length (map part_view c.args.parts.now) ≤ c.loop-part.part-index =
    omega (arith, length-map c.args.parts.now part_view, c.loop-part-test.false) in
    each_all (PartIsNumbered c.loop-part.self) (map part_view c.args.parts.now)
    c.loop-part.part-index c.loop-part.invariant.numbered past
