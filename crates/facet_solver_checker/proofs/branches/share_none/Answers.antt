use Rattle.std.proofs.Common.{◌≡◌, false, true}
use Rattle.facet_solver_checker.proofs.BranchesApart.{none_shared}
use Rattle.facet_solver_checker.proofs.Gathering.{read_at}
use Rattle.facet_solver_checker.proofs.branches.share_none.Goals as goal
use Rattle.facet_solver_checker.proofs.branches.share_none.Goals.{else-one-via-then-one+else-other}
use Rattle.facet_solver_checker.proofs.branches.share_none.Goals.{else-one-via-else-one}

pub returns-else-one : goal.returns-else-one
returns-else-one c = λ m is e.
    let lists = c.args.plan.now.lists.items in
    let one = c.in-Some-Some.one.now in
    let other = c.in-Some-Some.other.now in
    let look = c.in-Some-Some.ensures.lookup in
    let look' = c.in-Some-Some.ensures'.lookup in
    none_shared m c.args.plan.now c.args.apart.now c.args.first c.args.second one other
    c.deref-in-Some-Some.result.now is
    (read_at c.deref.result.now lists c.args.first one c.deref.ensures.value look.3.0 look.1)
    (read_at c.deref-2.result.now lists c.args.second other c.deref-2.ensures.value look'.3.0
    look'.1)
    c.deref-in-Some-Some.ensures.value (c.all_members_apart.ensures m is e)
    (λ f g.
    elim c.else-one.branch [
      | else-one-via-then-one+else-other w ↦
          let h : other.takes_rest ≡ false = w.if-other.false in absurd (cc)
      | else-one-via-else-one w ↦ let h : one.takes_rest ≡ false = w.if-one.false in absurd (cc)
    ])
