use Rattle.std.proofs.Common.{◌≡◌, ◌+◌, sym, ap, subst, map, length, arith}
use Rattle.std.proofs.lemmas.List.{length-map}
use Rattle.facet_solver_reader.specs.Branches.{ReadsBelow, ReadsPart}
use Rattle.facet_solver_reader.specs.Counted.{Counted}
use Rattle.facet_solver_reader.specs.Parts.{a_selection}
use Rattle.facet_solver_reader.specs.Reading.{object_view}
use Rattle.facet_solver_reader.specs.Readings.{ReadsValue}
use Rattle.facet_solver_reader.specs.Tables.{BranchIsBefore, ListIsServed, rules_at}
use Rattle.facet_solver_reader.specs.Views.{list_view, selection_view}
use Rattle.facet_solver_reader.proofs.CountingObjects.{seen_read}
use Rattle.facet_solver_reader.proofs.KnownNames.{none_passed}
use Rattle.facet_solver_reader.proofs.Quantifiers.{all_at}
use Rattle.facet_solver_reader.proofs.Selections.{count_below_more, count_below_none}
use Rattle.facet_solver_reader.proofs.Selections.{count_of_present}
use Rattle.facet_solver_reader.proofs.count.selection.count_branches.Goals as goal

pub loop-branch-init : goal.loop-branch-init
loop-branch-init c =
    let rules = rules_at c.args.tables.now in
    let object = object_view c.args.nodes.now c.args.object.now in
    let s = selection_view c.args.selection.now in
    record {
      passed = none_passed rules object s c.none-passed.result c.none-passed.ensures;
      counted = count_below_none rules (ReadsValue rules) object s;
    }

pub count_branch-next-requires-clause-branch : goal.count_branch-next-requires-clause-branch
count_branch-next-requires-clause-branch c =
    let ids = (selection_view c.args.selection.now).branches in
    let i = c.loop-branch.branch-index in
    all_at (ListIsServed c.args.tables.now) ids i (list_view c.branch-item.result)
    c.requires.served
    (seen_read list_view c.deref-branch-items.result.now ids i c.branch-item.result
    (ap (map list_view) c.deref-branch-items.ensures.value) c.loop-branch-test.true
    c.branch-item.is)

pub count_branch-next-requires-clause-before : goal.count_branch-next-requires-clause-before
count_branch-next-requires-clause-before c =
    let ids = (selection_view c.args.selection.now).branches in
    let i = c.loop-branch.branch-index in
    all_at
    (BranchIsBefore c.args.tables.now c.args.object.now.list.now.below.items
    (length c.args.counts.now))
    ids i (list_view c.branch-item.result) c.requires.before
    (seen_read list_view c.deref-branch-items.result.now ids i c.branch-item.result
    (ap (map list_view) c.deref-branch-items.ensures.value) c.loop-branch-test.true
    c.branch-item.is)

pub loop-branch-preserved : goal.loop-branch-preserved
loop-branch-preserved c =
    let rules = rules_at c.args.tables.now in
    let object = object_view c.args.nodes.now c.args.object.now in
    let s = selection_view c.args.selection.now in
    let i = c.loop-branch.branch-index in
    let at = seen_read list_view c.deref-branch-items.result.now s.branches i
    c.branch-item.result (ap (map list_view) c.deref-branch-items.ensures.value)
    c.loop-branch-test.true c.branch-item.is in
    record {
      passed = c.count_branch-next.ensures.passed;
      counted =
          subst
          (Counted (ReadsBelow (ReadsPart rules (ReadsValue rules) object (a_selection s)) (i + 1)))
          (sym c.plus-count.ensures)
          (count_below_more rules (ReadsValue rules) object s i c.loop-branch.count
          c.count_branch-next.result c.loop-branch.invariant.counted (c.count_branch-next.ensures.count i at));
    }

pub returns : goal.returns
returns c =
    let rules = rules_at c.args.tables.now in
    let object = object_view c.args.nodes.now c.args.object.now in
    let s = selection_view c.args.selection.now in
    let past : c.loop-branch.branch-index ≡ length s.branches =
    omega (
      arith,
      length-map c.args.selection.now.branches.items list_view,
      ap length c.deref-branch-items.ensures.value,
    ) in
    count_of_present rules (ReadsValue rules) object s c.loop-branch.count
    c.requires.present
    (subst
    (λ n.
    Counted (ReadsBelow (ReadsPart rules (ReadsValue rules) object (a_selection s)) n)
    c.loop-branch.count)
    past c.loop-branch.invariant.counted)
