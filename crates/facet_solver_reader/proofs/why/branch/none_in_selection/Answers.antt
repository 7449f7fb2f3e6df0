use Rattle.std.proofs.Common.{subst}
use Rattle.std.specs.Prelude.{IfSome}
use Rattle.facet_solver_reader.specs.Nodes.{value_of}
use Rattle.facet_solver_reader.specs.Tables.{rules_at}
use Rattle.facet_solver_reader.specs.Blaming.{IsHere}
use Rattle.facet_solver_reader.proofs.why.branch.none_in_selection.Goals as goal

pub returns-in-Some-2-clause-found : goal.returns-in-Some-2-clause-found
returns-in-Some-2-clause-found c =
    let rules = rules_at c.args.tables.now in
    let v = value_of c.args.nodes.now c.args.asked.now.object.node in
    subst (λ o. IfSome o (IsHere rules v)) c.in-Some-2.is c.in_ok-here.ensures
