use Rattle.std.proofs.Common.{arith, refl, below_more}
use Rattle.std.proofs.lemmas.Option.{slice_get_within}
use Rattle.facet_solver_reader.proofs.tables.order.Ordered.first_left.Goals as goal

pub returns-then-is_left : goal.returns-then-is_left
returns-then-is_left c = c.if-is_left.ensures.left refl

pub loop-number-preserved : goal.loop-number-preserved
loop-number-preserved c = below_more _ _ c.loop-number.invariant (c.if-is_left.ensures.other refl)

pub returns : goal.returns
returns c = λ number left.
    let within = slice_get_within c.args.every.now.lists.items number left.list left.is_there in
    c.loop-number.invariant number (omega (arith, within, c.loop-number-test.false, c.len-number-end.ensures, c.args.every.now.lists.ok.0)) left
