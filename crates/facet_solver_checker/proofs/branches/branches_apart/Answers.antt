use Rattle.std.proofs.Common.{◌≤◌, All, List, arith, get_or, length, subst, sym, ℕ}
use Rattle.std.proofs.lemmas.List.Elements.{All-more}
use Rattle.facet_solver_reader.proofs.Pairs.{take_past}
use Rattle.facet_solver_checker.specs.BranchesMeet.{AreInnersApart}
use Rattle.facet_solver_checker.specs.Inners.{AreInners}
use Rattle.facet_solver_checker.proofs.BranchesApart.{branches_are_apart, wholes_apart}
use Rattle.facet_solver_checker.proofs.branches.branches_apart.Goals as goal

pub returns-then-none : goal.returns-then-none
returns-then-none c = λ m is required leaves e.
    wholes_apart m c.args.must_touch c.args.first c.args.second
    (c.inners_apart-none.ensures m is required leaves c.if-none.true)

pub loop-one-preserved : goal.loop-one-preserved
loop-one-preserved c = λ m is required leaves.
    let firsts = c.deref-one-items.result.now in
    All-more
    (λ (i : ℕ). All (λ (o : ℕ). AreInnersApart m c.args.must_touch i o)
    c.in_ok-seconds.seconds.items)
    firsts c.loop-one.one-index 0 c.loop-one-test.true
    (c.loop-one.invariant m is required leaves)
    (subst
    (λ (ns : List ℕ).
    All (λ (o : ℕ). AreInnersApart m c.args.must_touch (get_or firsts c.loop-one.one-index 0) o)
    ns)
    c.deref.ensures.value (c.all_inners_apart-all.ensures m is required leaves c.if-not-all.false))

pub returns : goal.returns
returns c = λ m is required leaves e.
    let firsts = c.deref-one-items.result.now in
    let past : length firsts ≤ c.loop-one.one-index = omega (arith, c.loop-one-test.false) in
    branches_are_apart m c.args.must_touch c.args.first c.args.second firsts
    c.in_ok-seconds.seconds.items
    (subst (λ (ns : List ℕ). AreInners m c.args.first ns) (sym c.deref-one-items.ensures.value)
    (c.in_ok-firsts.ensures m is))
    (c.in_ok-seconds.ensures m is)
    (subst
    (λ (xs : List ℕ).
    All
    (λ (i : ℕ). All (λ (o : ℕ). AreInnersApart m c.args.must_touch i o)
    c.in_ok-seconds.seconds.items)
    xs)
    (take_past c.loop-one.one-index firsts past) (c.loop-one.invariant m is required leaves))
