use Rattle.std.proofs.Common.{◌∙◌, ap, length, map, arith, subst, sym}
use Rattle.std.proofs.lemmas.List.{length-map}
use Rattle.facet_solver_reader.specs.Reading.{object_view}
use Rattle.facet_solver_reader.specs.Readings.{ReadsValue}
use Rattle.facet_solver_reader.specs.Tables.{ListIsServed, rules_at}
use Rattle.facet_solver_reader.specs.Views.{list_view, selection_view}
use Rattle.facet_solver_reader.proofs.Alone.{AreAlone, alone_found, alone_here, alone_more, is_none}
use Rattle.facet_solver_reader.proofs.CountingObjects.{seen_read}
use Rattle.facet_solver_reader.proofs.Quantifiers.{all_at}
use Rattle.facet_solver_reader.proofs.count.chosen.lone_branch.Goals as goal

pub fails_by_branch-requires-clause-served : goal.fails_by_branch-requires-clause-served
fails_by_branch-requires-clause-served c =
    let ids = (selection_view c.args.selection.now).branches in
    all_at (ListIsServed c.args.tables.now) ids c.loop-k.k (list_view c.branch-item.result)
    c.requires.served
    (seen_read list_view c.deref-branch-items.result.now ids c.loop-k.k c.branch-item.result
    (ap (map list_view) c.deref-branch-items.ensures.value) c.loop-k-test.true c.branch-item.is)

pub loop-k-preserved-then-fails_by_branch : goal.loop-k-preserved-then-fails_by_branch
loop-k-preserved-then-fails_by_branch c =
    let rules = rules_at c.args.tables.now in
    let object = object_view c.args.nodes.now c.args.object.now in
    let s = selection_view c.args.selection.now in
    let at = seen_read list_view c.deref-branch-items.result.now s.branches c.loop-k.k
    c.branch-item.result (ap (map list_view) c.deref-branch-items.ensures.value)
    c.loop-k-test.true c.branch-item.is in
    record {
      within = c.loop-k.invariant.within;
      last = c.fails_by_branch.ensures.last;
      alone =
          alone_more rules (ReadsValue rules) object s c.loop-k.found c.loop-k.k
          (list_view c.branch-item.result) at
          (c.fails_by_branch.ensures.fails c.if-fails_by_branch.true)
          c.loop-k.invariant.alone;
    }

pub loop-k-preserved : goal.loop-k-preserved
loop-k-preserved c =
    let rules = rules_at c.args.tables.now in
    let object = object_view c.args.nodes.now c.args.object.now in
    let s = selection_view c.args.selection.now in
    let none = is_none c.loop-k.found (sym c.is_some.ensures ∙ c.if-is_some.false) in
    record {
      within =
          omega (arith, c.loop-k-test.true, ap length c.deref-branch-items.ensures.value);
      last = c.fails_by_branch.ensures.last;
      alone =
          alone_here rules (ReadsValue rules) object s c.loop-k.k
          (subst (λ f. AreAlone rules (ReadsValue rules) object s f c.loop-k.k) none
          c.loop-k.invariant.alone);
    }

pub returns-clause-alone : goal.returns-clause-alone
returns-clause-alone c =
    let rules = rules_at c.args.tables.now in
    let object = object_view c.args.nodes.now c.args.object.now in
    let s = selection_view c.args.selection.now in
    alone_found rules (ReadsValue rules) object s c.loop-k.found c.loop-k.k
    (omega (
      arith,
      c.loop-k-test.false,
      length-map c.args.selection.now.branches.items list_view,
      ap length c.deref-branch-items.ensures.value,
    ))
    c.loop-k.invariant.alone
