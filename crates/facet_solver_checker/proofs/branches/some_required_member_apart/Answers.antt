use Rattle.facet_solver_checker.proofs.BranchesApart.{required_member}
use Rattle.facet_solver_checker.proofs.Gathering.{read_at}
use Rattle.facet_solver_checker.proofs.branches.some_required_member_apart.Goals as goal

pub returns-in-Some : goal.returns-in-Some
returns-in-Some c = λ m is required e.
    let look = c.in-Some.ensures.lookup in
    let there = read_at c.deref.result.now c.args.tables.now.required.now.names.items c.args.number
    c.in-Some.names.now c.deref.ensures.value look.3.0 look.1 in
    required_member m c.args.tables.now.apart.now c.args.first c.args.second c.args.number
    c.args.tables.now.required.now.names.items c.in-Some.names.now c.deref-in-Some.result.now there
    c.deref-in-Some.ensures.value required (c.some_member_apart.ensures m is e)
