use Rattle.std.proofs.Common.{◌≤◌, ap, arith, length}
use Rattle.facet_solver_reader.proofs.Added.{upto_all}
use Rattle.facet_solver_reader.proofs.tables.every.EveryList.listed.Goals as goal

pub returns : goal.returns
returns c =
    let all = ap length c.shapes-shapes.ensures in
    let past : length c.args.types.now ≤ c.loop-index.index =
    omega (arith, all, c.len-index-end.ensures.value, c.loop-index-test.false) in
    upto_all c.args.types.now c.loop-index.every c.loop-index.index c.loop-index.invariant past
