use Rattle.std.proofs.Common.{◌≡◌, ◌+◌, suc, arith, refl, subst}
use Rattle.facet_solver.specs.build.Counts.{CountsTo}
use Rattle.facet_solver.proofs.build.count.table.count_optional.Goals as goal

pub returns-then-may_be_absent : goal.returns-then-may_be_absent
returns-then-may_be_absent c n h =
    let one_more : 1 + n ≡ suc n = omega arith in
    rw c.if-may_be_absent.true (subst (CountsTo c.plus.result) one_more (c.plus.ensures 1 n refl h))
