use Rattle.facet_solver_checker.proofs.BranchesTold.{none_told}
use Rattle.facet_solver_checker.proofs.forks.reads_none.Goals as goal

pub returns : goal.returns
returns c =
    let tables = c.args.tables.now in
    none_told tables.plan.now tables.apart.now tables.required.now.names.items c.args.list
    c.requires.required c.some_required_member_apart.result c.some_required_member_apart.ensures
