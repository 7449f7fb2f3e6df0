use Rattle.std.proofs.Common.{◌≡◌, ◌++◌, ◌∷◌, [], ◌≤◌, List, ℕ, subst, arith, length, rules}
use Rattle.facet_solver_reader.specs.PlanNumbers.{PartIsNumbered}
use Rattle.facet_solver_reader.specs.PlannedLists.{IsPartFrom}
use Rattle.facet_solver_reader.specs.Plans.{HasFieldName}
use Rattle.facet_solver_reader.specs.SelectionNames.{PartHasBranchNames}
use Rattle.facet_solver_reader.specs.Tables.{PartIsServed, rules_at}
use Rattle.facet_solver_reader.specs.Views.{list_view, part_view}
use Rattle.facet_solver_reader.proofs.Pairs.{one_of_those, pairs_all, pairs_pushed}
use Rattle.facet_solver_reader.proofs.Plans.{fields_more, one_longer}
use Rattle.facet_solver_reader.proofs.StayMet.{one_of_all}
use Rattle.facet_solver_reader.proofs.plan.lists.planned_parts.Goals as goal

pub planned_part-requires-clause-served : goal.planned_part-requires-clause-served
planned_part-requires-clause-served c =
    one_of_all (PartIsServed c.args.tables.now) part_view c.args.parts.now c.loop-index.index
    c.index-parts-index.result c.loop-index-test.true c.index-parts-index.is c.requires.served

pub planned_part-requires-clause-numbered : goal.planned_part-requires-clause-numbered
planned_part-requires-clause-numbered c =
    one_of_all (PartIsNumbered c.args.numbers.now) part_view c.args.parts.now c.loop-index.index
    c.index-parts-index.result c.loop-index-test.true c.index-parts-index.is c.requires.numbered

pub planned_part-requires-clause-names : goal.planned_part-requires-clause-names
planned_part-requires-clause-names c =
    one_of_those (PartHasBranchNames (rules_at c.args.tables.now).lists) c.args.parts.now
    c.loop-index.index c.index-parts-index.result c.loop-index-test.true c.index-parts-index.is c.requires.names

pub loop-index-preserved : goal.loop-index-preserved
loop-index-preserved c =
    let old = c.loop-index.planned.items in
    let part = c.in_ok-next.next in
    let pushed : c.push.new.self.items ≡ old ++ part ∷ [] = search rules in
    let t = c.args.tables.now in
    record {
      parts =
          pairs_pushed (IsPartFrom t c.args.numbers.now) part_view c.args.parts.now c.loop-index.index
          c.index-parts-index.result old part c.push.new.self.items pushed c.loop-index-test.true
          c.index-parts-index.is c.loop-index.invariant.parts c.in_ok-next.ensures.part;
      count = one_longer old part c.push.new.self.items c.loop-index.index pushed
          c.loop-index.invariant.count;
      fields =
          fields_more t.shapes.now (list_view c.args.id.now) c.loop-index.index old c.push.new.self.items part
          c.loop-index.invariant.fields c.loop-index.invariant.count pushed
          (subst (λ (n : List ℕ). HasFieldName n part) c.field_name-field.ensures
          c.in_ok-next.ensures.field);
    }

pub returns-clause-parts : goal.returns-clause-parts
returns-clause-parts c =
    let past : length c.args.parts.now ≤ c.loop-index.index = omega (arith, c.loop-index-test.false) in
    pairs_all (IsPartFrom c.args.tables.now c.args.numbers.now) part_view c.args.parts.now
    c.loop-index.index c.loop-index.planned.items past c.loop-index.invariant.parts
