use Rattle.std.proofs.Common.{subst, ℕ}
use Rattle.std.specs.List.{All}
use Rattle.std.specs.Prelude.{IfSome}
use Rattle.facet_solver_reader.specs.Nodes.{value_of}
use Rattle.facet_solver_reader.specs.Tables.{rules_at}
use Rattle.facet_solver_reader.specs.Blaming.{IsTallied}
use Rattle.facet_solver_reader.specs.Why.{IsReadBy}
use Rattle.facet_solver_reader.proofs.why.several.several_in_object.Goals as goal

pub returns-in-Some-branches-clause-next : goal.returns-in-Some-branches-clause-next
returns-in-Some-branches-clause-next c =
    let t = c.args.tables.now in
    let nodes = c.args.nodes.now in
    let is = subst (λ o. IfSome o (IsTallied t nodes c.args.node)) c.in-Some.is
    c.in_ok-tallied.ensures.tallied in
    let told = subst
    (λ o.
    IfSome o
    (λ bs. All (IsReadBy (rules_at t) (value_of nodes c.in-Some.tallied.object.node)) bs.items))
    c.in-Some-branches.is c.in_ok-branches.ensures.branches in
    subst
    (λ (n : ℕ). All (IsReadBy (rules_at t) (value_of nodes n)) c.in-Some-branches.branches.items)
    is.same told

pub returns-clause-next : goal.returns-clause-next
returns-clause-next c = c.first_several.ensures.next (value_of c.args.nodes.now c.args.node)
