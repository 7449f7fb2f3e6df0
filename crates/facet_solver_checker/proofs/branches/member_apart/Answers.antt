use Rattle.std.proofs.Common.{◌≡◌, ◌∙◌, List, Some, ap, refl, slice_get, subst, sym, true, ℕ}
use Rattle.facet_solver_reader.specs.declared.plan.PlannedList.{PlannedList}
use Rattle.facet_solver_checker.specs.NamedApart.{are_named_apart}
use Rattle.facet_solver_checker.specs.PlanMembers.{targets_below}
use Rattle.facet_solver_checker.proofs.BranchesApart.{member_is_apart}
use Rattle.facet_solver_checker.proofs.Gathering.{read_at}
use Rattle.facet_solver_checker.proofs.NamedApart.{named_apart}
use Rattle.facet_solver_checker.proofs.branches.member_apart.Goals as goal

pub returns-in-Some-Some : goal.returns-in-Some-Some
returns-in-Some-Some c = λ m is e.
    let plan = c.args.plan.now in
    let lists = plan.lists.items in
    let x = c.args.name.now in
    let one = c.in-Some-Some.one.now in
    let other = c.in-Some-Some.other.now in
    let look = c.in-Some-Some.ensures.lookup in
    let look' = c.in-Some-Some.ensures'.lookup in
    let first = read_at c.deref.result.now lists c.args.first one c.deref.ensures.value look.3.0
    look.1 in
    let second = read_at c.deref-2.result.now lists c.args.second other c.deref-2.ensures.value
    look'.3.0 look'.1 in
    let told : are_named_apart c.args.apart.now lists x one.below.items other.below.items ≡ true =
    subst
    (λ (ls : List PlannedList).
    are_named_apart c.args.apart.now ls x one.below.items other.below.items ≡ true)
    c.deref-in-Some-Some.ensures.value
    (subst
    (λ (ns : List ℕ).
    are_named_apart c.args.apart.now c.deref-in-Some-Some.result.now x ns other.below.items ≡ true)
    c.deref-in-Some-Some-2.ensures.value
    (subst
    (λ (ns : List ℕ).
    are_named_apart c.args.apart.now c.deref-in-Some-Some.result.now x
    c.deref-in-Some-Some-2.result.now ns
    ≡ true)
    c.deref-in-Some-Some-3.ensures.value (sym c.are_named_apart.ensures ∙ e))) in
    member_is_apart m plan c.args.apart.now c.args.first c.args.second x
    (targets_below lists x one.below.items) (targets_below lists x other.below.items)
    (λ l at. let same : one ≡ l = cc in ap (λ (k : PlannedList). targets_below lists x
    k.below.items) same)
    (λ l at. let same : other ≡ l = cc in ap (λ (k : PlannedList). targets_below lists x
    k.below.items) same)
    (named_apart c.args.apart.now lists x other.below.items one.below.items ∙ told) is
