use Rattle.std.proofs.Common.{◌≡◌, ◌∙◌, ◌++◌, ◌∷◌, [], ◌≤◌, List, subst, arith, length, rules}
use Rattle.std.proofs.lemmas.List.{map-id}
use Rattle.facet_solver_reader.specs.declared.tables.List.{List as ListEntry}
use Rattle.facet_solver_reader.specs.PlannedLists.{IsListFrom}
use Rattle.facet_solver_reader.specs.Plans.{AreInPairs}
use Rattle.facet_solver_reader.proofs.Pairs.{pairs_all, pairs_pushed}
use Rattle.facet_solver_reader.proofs.PlanNumbers.{list_here}
use Rattle.facet_solver_reader.proofs.plan.lists.planned_lists.Goals as goal

pub planned_list-requires-clause-listed : goal.planned_list-requires-clause-listed
planned_list-requires-clause-listed c = (
  c.loop-list.list-index,
  list_here c.args.tables.now c.deref-list-items.result.now c.loop-list.list-index c.list-item.result
      c.deref-list-items.ensures.value c.loop-list-test.true c.list-item.is,
)

pub loop-list-preserved : goal.loop-list-preserved
loop-list-preserved c =
    let old = c.loop-list.lists.items in
    let planned = c.in_ok-planned.planned in
    let pushed : c.push.new.self.items ≡ old ++ planned ∷ [] = search rules in
    pairs_pushed (IsListFrom c.args.tables.now c.args.numbers.now) (λ (e : ListEntry). e)
    c.deref-list-items.result.now c.loop-list.list-index c.list-item.result old planned
    c.push.new.self.items pushed c.loop-list-test.true c.list-item.is c.loop-list.invariant
    c.in_ok-planned.ensures

pub returns : goal.returns
returns c =
    let R = IsListFrom c.args.tables.now c.args.numbers.now in
    let ls = c.deref-list-items.result.now in
    let past : length ls ≤ c.loop-list.list-index = omega (arith, c.loop-list-test.false) in
    subst (λ (xs : List ListEntry). AreInPairs R xs c.loop-list.lists.items)
    (map-id ls ∙ c.deref-list-items.ensures.value)
    (pairs_all R (λ (e : ListEntry). e) ls c.loop-list.list-index c.loop-list.lists.items past
    c.loop-list.invariant)
