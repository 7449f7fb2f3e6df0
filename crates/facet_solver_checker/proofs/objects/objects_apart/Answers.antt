use Rattle.std.proofs.Common.{◌≤◌, All, List, arith, get_or, length, subst, sym, ℕ}
use Rattle.std.proofs.lemmas.List.Elements.{All-more}
use Rattle.facet_solver_reader.proofs.Pairs.{take_past}
use Rattle.facet_solver_checker.specs.Inners.{AreInners}
use Rattle.facet_solver_checker.specs.ListsMeet.{AllOthersApart}
use Rattle.facet_solver_checker.proofs.ListWays.{lists_are_apart}
use Rattle.facet_solver_checker.proofs.objects.objects_apart.Goals as goal

pub loop-inner-preserved : goal.loop-inner-preserved
loop-inner-preserved c = λ m is required.
    All-more
    (λ (a : ℕ). AllOthersApart m c.args.apart.now (record { list = c.args.first; inner = a })
    c.args.second c.in_ok-seconds.seconds.items)
    c.deref-inner-items.result.now c.loop-inner.inner-index 0 c.loop-inner-test.true
    (c.loop-inner.invariant m is required)
    (subst
    (λ (ns : List ℕ).
    AllOthersApart m c.args.apart.now
    (record {
      list = c.args.first;
      inner = get_or c.deref-inner-items.result.now c.loop-inner.inner-index 0;
    })
    c.args.second ns)
    c.deref.ensures.value (c.in_ok-all.ensures m is required c.if-not-all.false))

pub returns : goal.returns
returns c = λ m is required e.
    let past : length c.deref-inner-items.result.now ≤ c.loop-inner.inner-index =
    omega (arith, c.loop-inner-test.false) in
    lists_are_apart m c.args.apart.now c.args.first c.args.second c.deref-inner-items.result.now
    c.in_ok-seconds.seconds.items
    (subst (λ (ns : List ℕ). AreInners m c.args.first ns) (sym c.deref-inner-items.ensures.value)
    (c.in_ok-firsts.ensures m is.lists))
    (c.in_ok-seconds.ensures m is.lists)
    (subst
    (λ (xs : List ℕ).
    All
    (λ (a : ℕ). AllOthersApart m c.args.apart.now (record { list = c.args.first; inner = a })
    c.args.second c.in_ok-seconds.seconds.items) xs)
    (take_past c.loop-inner.inner-index c.deref-inner-items.result.now past)
    (c.loop-inner.invariant m is required))
