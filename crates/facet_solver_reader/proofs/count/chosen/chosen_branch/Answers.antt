use Rattle.std.proofs.Common.{◌≡◌, ap, subst, map, length, true, false, arith}
use Rattle.std.proofs.lemmas.List.{length-map}
use Rattle.facet_solver_reader.specs.declared.count.Count.TheVariants.{None}
use Rattle.facet_solver_reader.specs.Branches.{ReadsAt, ReadsBelow, ReadsPart}
use Rattle.facet_solver_reader.specs.Counted.{Counted}
use Rattle.facet_solver_reader.specs.Parts.{a_selection}
use Rattle.facet_solver_reader.specs.Reading.{object_view}
use Rattle.facet_solver_reader.specs.Readings.{ReadsValue}
use Rattle.facet_solver_reader.specs.Tables.{BranchIsBefore, ListIsServed, rules_at}
use Rattle.facet_solver_reader.specs.Views.{list_view, selection_view}
use Rattle.facet_solver_reader.proofs.ChosenBranch.{read_at}
use Rattle.facet_solver_reader.proofs.CountingObjects.{seen_read}
use Rattle.facet_solver_reader.proofs.Quantifiers.{all_at}
use Rattle.facet_solver_reader.proofs.Selections.{count_below_more, count_of_present, reads_absent}
use Rattle.facet_solver_reader.proofs.count.chosen.chosen_branch.Goals as goal

pub returns-then-not-touches : goal.returns-then-not-touches
returns-then-not-touches c =
    let rules = rules_at c.args.tables.now in
    reads_absent rules (ReadsValue rules) (object_view c.args.nodes.now c.args.object.now)
    (selection_view c.args.selection.now) c.if-selection.true
    (λ touched.
    let is : c.touches.result ≡ true = c.touches.ensures.1 touched in
    let isnt : c.touches.result ≡ false = c.if-not-touches.true in
    absurd (cc))

pub count_branch-count-requires-clause-branch : goal.count_branch-count-requires-clause-branch
count_branch-count-requires-clause-branch c =
    let ids = (selection_view c.args.selection.now).branches in
    all_at (ListIsServed c.args.tables.now) ids c.loop-k.k (list_view c.branch-item.result)
    c.requires.served
    (seen_read list_view c.deref-branch-items.result.now ids c.loop-k.k c.branch-item.result
    (ap (map list_view) c.deref-branch-items.ensures.value) c.loop-k-test.true c.branch-item.is)

pub count_branch-count-requires-clause-before : goal.count_branch-count-requires-clause-before
count_branch-count-requires-clause-before c =
    let ids = (selection_view c.args.selection.now).branches in
    all_at
    (BranchIsBefore c.args.tables.now c.args.object.now.list.now.below.items
    (length c.args.counts.now))
    ids c.loop-k.k (list_view c.branch-item.result) c.requires.before
    (seen_read list_view c.deref-branch-items.result.now ids c.loop-k.k c.branch-item.result
    (ap (map list_view) c.deref-branch-items.ensures.value) c.loop-k-test.true c.branch-item.is)

pub returns-then-not-is_none : goal.returns-then-not-is_none
returns-then-not-is_none c =
    let rules = rules_at c.args.tables.now in
    let s = selection_view c.args.selection.now in
    let at = seen_read list_view c.deref-branch-items.result.now s.branches c.loop-k.k
    c.branch-item.result (ap (map list_view) c.deref-branch-items.ensures.value)
    c.loop-k-test.true c.branch-item.is in
    read_at rules (ReadsValue rules) (object_view c.args.nodes.now c.args.object.now) s c.loop-k.k
    c.count_branch-count.result
    (λ none.
    let is : c.is_none.result ≡ true = c.is_none.ensures.1 none in
    let isnt : c.is_none.result ≡ false = c.if-not-is_none.true in
    absurd (cc))
    (c.count_branch-count.ensures.count c.loop-k.k at)

pub loop-k-preserved : goal.loop-k-preserved
loop-k-preserved c =
    let rules = rules_at c.args.tables.now in
    let object = object_view c.args.nodes.now c.args.object.now in
    let s = selection_view c.args.selection.now in
    let at = seen_read list_view c.deref-branch-items.result.now s.branches c.loop-k.k
    c.branch-item.result (ap (map list_view) c.deref-branch-items.ensures.value)
    c.loop-k-test.true c.branch-item.is in
    record {
      passed = c.count_branch-count.ensures.passed;
      present = c.loop-k.invariant.present;
      none =
          count_below_more rules (ReadsValue rules) object s c.loop-k.k None None
          c.loop-k.invariant.none
          (subst (Counted (ReadsAt (ReadsPart rules (ReadsValue rules) object (a_selection s))
          c.loop-k.k))
          (c.is_none.ensures.0 c.if-not-is_none.false) (c.count_branch-count.ensures.count c.loop-k.k at));
    }

pub unreachable-requires : goal.unreachable-requires
unreachable-requires c =
    let rules = rules_at c.args.tables.now in
    let object = object_view c.args.nodes.now c.args.object.now in
    let s = selection_view c.args.selection.now in
    let past : c.loop-k.k ≡ length s.branches =
    omega (
      arith,
      length-map c.args.selection.now.branches.items list_view,
      ap length c.deref-branch-items.ensures.value,
    ) in
    count_of_present rules (ReadsValue rules) object s None c.loop-k.invariant.present
    (subst
    (λ n.
    Counted (ReadsBelow (ReadsPart rules (ReadsValue rules) object (a_selection s)) n) None)
    past c.loop-k.invariant.none)
    c.requires.one.value c.requires.one.has
