use Rattle.std.proofs.Common.{Ok}
use Rattle.facet_solver_checker.proofs.BranchesTold.{branches_told, none_comes}
use Rattle.facet_solver_checker.proofs.forks.parts_apart.Goals as goal

pub returns-then-none : goal.returns-then-none
returns-then-none c = λ e.
    let tables = c.args.tables.now in
    branches_told tables.plan.now tables.apart.now tables.required.now.names.items c.args.list
    c.args.must_touch c.args.branches c.requires.required (Ok c.in_ok-none.none)
    c.in_ok-none.ensures c.if-none.true

pub returns : goal.returns
returns c = λ e.
    let tables = c.args.tables.now in
    none_comes tables.plan.now tables.apart.now c.args.list c.args.must_touch c.args.branches
    (c.reads_none.ensures e)
