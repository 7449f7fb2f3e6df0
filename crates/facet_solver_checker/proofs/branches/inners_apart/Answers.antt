use Rattle.facet_solver_checker.proofs.BranchesApart.{inners_by_first, inners_by_none}
use Rattle.facet_solver_checker.proofs.BranchesApart.{inners_by_second}
use Rattle.facet_solver_checker.proofs.branches.inners_apart.Goals as goal

pub returns-then-by_first : goal.returns-then-by_first
returns-then-by_first c = λ m is required leaves e.
    let r = c.some_required_member_apart-by_first.ensures m is required c.if-by_first.true in
    inners_by_first m c.args.tables.now.apart.now c.args.must_touch c.args.one c.args.other r.0 r.1
    r.2
    leaves

pub returns-then-by_second : goal.returns-then-by_second
returns-then-by_second c = λ m is required leaves e.
    let r = c.some_required_member_apart-by_second.ensures m is required c.if-by_second.true in
    inners_by_second m c.args.tables.now.apart.now c.args.must_touch c.args.one c.args.other r.0 r.1
    r.2
    leaves

pub returns : goal.returns
returns c = λ m is required leaves e.
    inners_by_none m c.args.tables.now.apart.now c.args.must_touch c.args.one c.args.other
    c.if-not-must_touch.false (c.share_none.ensures m is e) leaves
