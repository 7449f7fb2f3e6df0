use Rattle.std.proofs.Common.{arith}
use Rattle.std.proofs.lemmas.List.Elements.{All-more}
use Rattle.facet_solver_checker.specs.Apartness.{NameIsApart}
use Rattle.facet_solver_checker.proofs.Loops.{all_done}
use Rattle.facet_solver_checker.proofs.object_ends.name_apart.Goals as goal

pub loop-other-preserved : goal.loop-other-preserved
loop-other-preserved c =
    All-more (NameIsApart c.args.apart.now c.args.name.now) c.args.others.now
    c.loop-other.other-index _ c.loop-other-test.true c.loop-other.invariant
    (c.contents_apart.ensures c.if-not-contents_apart.false)

pub returns : goal.returns
returns c = λ h.
    all_done (NameIsApart c.args.apart.now c.args.name.now) c.args.others.now
    c.loop-other.other-index (omega (arith, c.loop-other-test.false)) c.loop-other.invariant
