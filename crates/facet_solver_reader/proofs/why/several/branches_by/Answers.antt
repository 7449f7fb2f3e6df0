use Rattle.std.proofs.Common.{ℕ, subst}
use Rattle.std.specs.List.{All}
use Rattle.std.specs.Prelude.{IfOk, IfSome}
use Rattle.facet_solver_reader.specs.Nodes.{value_of}
use Rattle.facet_solver_reader.specs.Tables.{rules_at}
use Rattle.facet_solver_reader.specs.Blaming.{IsTallied}
use Rattle.facet_solver_reader.specs.Why.{IsReadBy}
use Rattle.facet_solver_reader.proofs.why.several.branches_by.Goals as goal

pub returns-clause-branches : goal.returns-clause-branches
returns-clause-branches c =
    let t = c.args.tables.now in
    let nodes = c.args.nodes.now in
    let is = subst (λ o. IfSome o (IsTallied t nodes c.args.node)) c.in-Some.is
    c.in_ok-tallied.ensures.tallied in
    subst
    (λ (n : ℕ).
    IfOk c.first_branches.result
    (λ branches. All (IsReadBy (rules_at t) (value_of nodes n)) branches.items))
    is.same c.first_branches.ensures
