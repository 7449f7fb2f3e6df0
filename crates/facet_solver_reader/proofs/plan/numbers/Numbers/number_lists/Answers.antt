use Rattle.std.proofs.Common.{ap, sym, subst, All, List, arith, length}
use Rattle.std.proofs.lemmas.Option.{slice_get_within}
use Rattle.facet_solver_reader.specs.declared.part.Part as code_part
use Rattle.facet_solver_reader.specs.declared.tables.List.{List as ListEntry}
use Rattle.facet_solver_reader.specs.PlanNumbers.{PartIsNumbered}
use Rattle.facet_solver_reader.specs.Tables.{PartIsServed}
use Rattle.facet_solver_reader.specs.Views.{parts_view}
use Rattle.facet_solver_reader.proofs.PlanNumbers.{list_served, members_more, more_on}
use Rattle.facet_solver_reader.proofs.plan.numbers.Numbers.number_lists.Goals as goal

pub number_members-requires-clause-served : goal.number_members-requires-clause-served
number_members-requires-clause-served c =
    let t = c.args.tables.now in
    subst (λ (ps : List code_part.Part). All (PartIsServed t) (parts_view ps)) (sym c.deref.ensures.value)
    (list_served t c.deref-list-items.result.now c.loop-list.list-index c.list-item.result c.requires.tables
    c.deref-list-items.ensures.value c.loop-list-test.true c.list-item.is)

pub loop-list-preserved : goal.loop-list-preserved
loop-list-preserved c =
    let t = c.args.tables.now in
    let old = c.loop-list.self in
    let new = c.number_members.new.self in
    let done = c.in_ok-number_members.ensures in
    record {
      more = more_on t c.args.self.now old new c.loop-list.invariant.more done.more;
      numbered = members_more t old new c.deref-list-items.result.now c.loop-list.list-index c.list-item.result
          done.more c.deref-list-items.ensures.value c.loop-list-test.true c.list-item.is
          c.loop-list.invariant.numbered
          (subst (λ (ps : List code_part.Part). All (PartIsNumbered new) (parts_view ps)) c.deref.ensures.value done.numbered);
    }

pub returns-clause-numbered : goal.returns-clause-numbered
returns-clause-numbered c =
    λ k e is. c.loop-list.invariant.numbered k e
    (let l = slice_get_within c.args.tables.now.lists.items k e is in
    omega (arith, l, c.loop-list-test.false, c.deref-list-items.ensures.len, ap (λ (ls : List ListEntry). length ls) c.deref-list-items.ensures.value)) is
