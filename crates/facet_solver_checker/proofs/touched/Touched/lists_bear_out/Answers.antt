use Rattle.std.proofs.Common.{◌≡◌, ◌<◌, Some, arith, length, refl, slice_get, subst}
use borrow.Author.Count.{below_more}
use Rattle.std.proofs.lemmas.Option.{slice_get_read, slice_get_within}
use Rattle.facet_solver_reader.specs.declared.plan.PlannedList.{PlannedList}
use Rattle.facet_solver_reader.specs.declared.plan.PlannedPart.{PlannedPart}
use Rattle.std.proofs.Common.{List, ℕ, sym, ◌∙◌}
use Rattle.facet_solver_checker.specs.Touched.{BearsOutList}
use Rattle.facet_solver_checker.proofs.touched.Touched.lists_bear_out.Goals as goal

pub loop-number-preserved : goal.loop-number-preserved
loop-number-preserved c =
    let flags = c.args.self.now.flags.items in
    let lists = c.args.lists.now in
    let i = c.loop-number.number in
    let l = c.index-lists-number.result in
    let there = slice_get_read lists (length lists) i l refl c.loop-number-test.true
    c.index-lists-number.is in
    let same : l.parts.items ≡ c.deref.result.now = cc in
    below_more (λ k. (x : PlannedList) → slice_get lists k ≡ Some x
    → BearsOutList flags k x.parts.items) i c.loop-number.invariant
    (λ x at.
    let one : Some l ≡ Some x = sym there ∙ at in
    let list : l ≡ x = cc in
    subst (λ (z : PlannedList). BearsOutList flags i z.parts.items) list
    (subst (λ (ps : List PlannedPart). BearsOutList flags i ps) (sym same)
    (c.list_bears_out.ensures c.if-not-list_bears_out.false)))

pub returns : goal.returns
returns c = λ h n l at.
    let within : n < length c.args.lists.now = slice_get_within c.args.lists.now n l at in
    c.loop-number.invariant n (omega (arith, within)) l at
