use Rattle.std.proofs.Common.{◌≤◌, All, Bor, List, arith, length, subst}
use Rattle.std.proofs.lemmas.List.Elements.{All-more}
use Rattle.facet_solver_shape.specs.Names.{Name}
use Rattle.facet_solver_reader.specs.Plans.{Meaning}
use Rattle.facet_solver_reader.proofs.Pairs.{take_past}
use Rattle.facet_solver_checker.specs.BranchesMeet.{IsMemberApart}
use Rattle.facet_solver_checker.proofs.Gathering.{no_name}
use Rattle.facet_solver_checker.proofs.branches.all_members_apart.Goals as goal

pub loop-name-preserved : goal.loop-name-preserved
loop-name-preserved c = λ m is.
    All-more (λ (x : Bor Name). IsMemberApart m c.args.apart.now c.args.first c.args.second x.now)
    c.args.names.now c.loop-name.name-index no_name c.loop-name-test.true
    (c.loop-name.invariant m is) (c.member_apart-none.ensures m is c.if-not-none.false)

pub returns : goal.returns
returns c = λ m is e.
    let past : length c.args.names.now ≤ c.loop-name.name-index =
    omega (arith, c.loop-name-test.false) in
    subst
    (λ (xs : List (Bor Name)).
    All (λ (x : Bor Name). IsMemberApart m c.args.apart.now c.args.first c.args.second x.now) xs)
    (take_past c.loop-name.name-index c.args.names.now past) (c.loop-name.invariant m is)
