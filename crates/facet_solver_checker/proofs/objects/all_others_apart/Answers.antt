use Rattle.std.proofs.Common.{◌≤◌, List, arith, length, subst, ℕ}
use Rattle.std.proofs.lemmas.List.Elements.{All-more}
use Rattle.facet_solver_reader.proofs.Pairs.{take_past}
use Rattle.facet_solver_checker.specs.ListsMeet.{AllOthersApart, AreSidesApart}
use Rattle.facet_solver_checker.proofs.objects.all_others_apart.Goals as goal

pub loop-inner-preserved : goal.loop-inner-preserved
loop-inner-preserved c = λ m is required.
    All-more
    (λ (b : ℕ). AreSidesApart m c.args.apart.now c.args.first
    (record { list = c.args.second; inner = b }))
    c.args.inners.now c.loop-inner.inner-index 0 c.loop-inner-test.true
    (c.loop-inner.invariant m is required) (c.in_ok-none.ensures m is required c.if-not-none.false)

pub returns : goal.returns
returns c = λ m is required e.
    let past : length c.args.inners.now ≤ c.loop-inner.inner-index =
    omega (arith, c.loop-inner-test.false) in
    subst
    (λ (xs : List ℕ). AllOthersApart m c.args.apart.now c.args.first c.args.second xs)
    (take_past c.loop-inner.inner-index c.args.inners.now past)
    (c.loop-inner.invariant m is required)
