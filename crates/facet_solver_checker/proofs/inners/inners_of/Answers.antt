use Rattle.std.proofs.Common.{◌≡◌, ◌∙◌, ap, List, subst, sym, ℕ}
use Rattle.facet_solver_reader.specs.declared.plan.PlannedList.{PlannedList}
use Rattle.facet_solver_checker.specs.Inners.{AreInners, all_inners}
use Rattle.facet_solver_checker.proofs.InnerLists.{inners_begin, inners_more}
use Rattle.facet_solver_checker.proofs.inners.inners_of.Goals as goal

pub loop-init : goal.loop-init
loop-init c = λ m is. inners_begin m c.args.number c.in_ok-inners.inners.items
    c.in_ok-inners.ensures.items

pub loop-preserved : goal.loop-preserved
loop-preserved c = λ m is.
    let lists = c.args.plan.now.lists.items in
    let made : c.in_ok-more.more.items ≡ all_inners lists c.loop.inners.items =
    c.in_ok-more.ensures
    ∙ ap (λ (ls : List PlannedList). all_inners ls c.deref-in-loop.result.now) c.deref.ensures.value
    ∙ ap (λ (ns : List ℕ). all_inners lists ns) c.deref-in-loop.ensures.value in
    subst (λ (ns : List ℕ). AreInners m c.args.number ns) (sym made)
    (inners_more m c.args.plan.now is c.args.number c.loop.inners.items (c.loop.invariant m is))
