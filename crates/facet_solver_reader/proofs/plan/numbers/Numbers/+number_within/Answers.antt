use Rattle.std.proofs.Common.{◌∙◌, ap, subst, ℕ, ◌<◌, ◌≤◌, All, List, arith, length, map, get_or}
use Rattle.std.proofs.lemmas.List.{length-map}
use Rattle.facet_solver_reader.specs.declared.plan.target_key.TargetKey.TheVariants.{Shape}
use Rattle.facet_solver_reader.specs.Parts.{Target}
use Rattle.facet_solver_reader.specs.PlanNumbers.{AreMore, HasNumber}
use Rattle.facet_solver_reader.specs.Reached.{asked}
use Rattle.facet_solver_reader.specs.Tables.{IsServed, rules_at}
use Rattle.facet_solver_reader.specs.TargetKeys.{key_view}
use Rattle.facet_solver_reader.proofs.Marks.{each_all, each_more}
use Rattle.facet_solver_reader.proofs.PlanNumbers.{asked_ranked, asked_served, asks_item, more_on, numbers_put, on_ok_both, one_of_all, put_numbered, read_there}
use Rattle.facet_solver_reader.proofs.TableRanks.{rank_some}
use Rattle.facet_solver_reader.proofs.plan.numbers.Numbers.+number_within.Goals as goal

pub number_within-requires : goal.number_within-requires
number_within-requires t c =
    let tables = c.args.tables.now in
    let rules = rules_at tables in
    let u = key_view c.args.target.now in
    let ks = c.deref-next-items.result.now in
    let i = c.loop-next.next-index in
    let x = key_view (get_or ks i (Shape 0)) in
    let asks =
    asks_item rules u ks i (Shape 0)
    (ap (map key_view) c.deref-next-items.ensures.value ∙ c.in_ok-asked.ensures)
    c.loop-next-test.true in
    let some : 0 < c.args.steps = rank_some rules c.args.steps u c.requires.ranked in (
      omega arith,
      (
        c.requires.tables,
        (
          c.loop-next.invariant.more.numbers,
          (
            one_of_all (IsServed tables) (asked rules u) x
                (asked_served tables u c.requires.tables c.requires.served) asks,
            asked_ranked rules c.args.steps u x c.requires.ranked asks,
          ),
        ),
      ),
    )

pub loop-next-preserved : goal.loop-next-preserved
loop-next-preserved t c =
    let old = c.loop-next.self in
    let new = c.number_within.new.self in
    let done = c.in_ok-number_within.ensures in
    let ks = c.deref-next-items.result.now in
    let i = c.loop-next.next-index in
    record {
      more = more_on c.args.tables.now c.args.self.now old new c.loop-next.invariant.more done.more;
      numbered =
          each_more (HasNumber old) (HasNumber new) key_view ks i (get_or ks i (Shape 0))
          (λ u h. done.more.kept u h) c.loop-next.invariant.numbered c.loop-next-test.true
          (read_there ks i (Shape 0) c.loop-next-test.true) done.numbered;
    }

-- what the target asks has numbers, and it is put behind
module _ (t : ℕ) (c : goal.After-drop-asked-2 t) where
  all : All (HasNumber c.loop-next.self) (asked (rules_at c.args.tables.now) (key_view c.args.target.now))
  all =
      let ks = c.deref-next-items.result.now in
      let past : length (map key_view ks) ≤ c.loop-next.next-index =
      omega (arith, length-map ks key_view, c.loop-next-test.false) in
      subst (λ (ts : List Target). All (HasNumber c.loop-next.self) ts)
      (ap (map key_view) c.deref-next-items.ensures.value ∙ c.in_ok-asked.ensures)
      (each_all (HasNumber c.loop-next.self) (map key_view ks) c.loop-next.next-index
      c.loop-next.invariant.numbered past)

pub returns-clause-more : goal.returns-clause-more
returns-clause-more t c =
    let u = key_view c.args.target.now in
    let mid = c.loop-next.self in
    let new = c.add.new.self in
    on_ok_both c.add.result _ _ (AreMore c.args.tables.now c.args.self.now new)
    (λ found put.
    more_on c.args.tables.now c.args.self.now mid new c.loop-next.invariant.more
    (numbers_put c.args.tables.now mid new u c.loop-next.invariant.more.numbers (all t c)
    c.requires.served found put))
    c.add.ensures.found c.add.ensures.put

pub returns-clause-numbered : goal.returns-clause-numbered
returns-clause-numbered t c =
    let u = key_view c.args.target.now in
    let mid = c.loop-next.self in
    let new = c.add.new.self in
    on_ok_both c.add.result _ _ (HasNumber new u)
    (λ found put.
    put_numbered c.args.tables.now mid new u c.loop-next.invariant.more.numbers (all t c)
    c.requires.served found put)
    c.add.ensures.found c.add.ensures.put
