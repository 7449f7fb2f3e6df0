use Rattle.std.proofs.Common.{◌≤◌, All, List, arith, length, subst, ℕ}
use Rattle.std.proofs.lemmas.List.Elements.{All-more}
use Rattle.facet_solver_reader.proofs.Pairs.{take_past}
use Rattle.facet_solver_checker.specs.BranchesMeet.{AreInnersApart}
use Rattle.facet_solver_checker.proofs.branches.all_inners_apart.Goals as goal

pub loop-other-preserved : goal.loop-other-preserved
loop-other-preserved c = λ m is required leaves.
    All-more (λ (o : ℕ). AreInnersApart m c.args.must_touch c.args.one o) c.args.others.now
    c.loop-other.other-index 0 c.loop-other-test.true
    (c.loop-other.invariant m is required leaves)
    (c.inners_apart-none.ensures m is required leaves c.if-not-none.false)

pub returns : goal.returns
returns c = λ m is required leaves e.
    let past : length c.args.others.now ≤ c.loop-other.other-index =
    omega (arith, c.loop-other-test.false) in
    subst
    (λ (xs : List ℕ). All (λ (o : ℕ). AreInnersApart m c.args.must_touch c.args.one o) xs)
    (take_past c.loop-other.other-index c.args.others.now past)
    (c.loop-other.invariant m is required leaves)
