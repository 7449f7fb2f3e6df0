use Rattle.std.proofs.Common.{◌≡◌, ap, ◌∙◌, ℕ, subst}
use Rattle.std.specs.List.{All}
use Rattle.std.specs.Prelude.{IfOk}
use Rattle.facet_solver_reader.specs.Nodes.{value_of}
use Rattle.facet_solver_reader.specs.Tables.{rules_at}
use Rattle.facet_solver_reader.specs.Why.{IsMisfit}
use Rattle.facet_solver_reader.specs.declared.count.object.Object as code
use Rattle.facet_solver_reader.proofs.why.untagged.joined_misfits.Goals as goal

pub returns-clause-misfits : goal.returns-clause-misfits
returns-clause-misfits c =
    let same : c.in_ok-asked.asked.object.node ≡ c.args.node =
    ap (λ (o : code.Object). o.node) c.in_ok-asked.ensures.same ∙ c.in-Some.ensures.same in
    subst
    (λ (n : ℕ).
    IfOk c.misfits_by.result
    (λ misfits.
    All (IsMisfit (rules_at c.args.tables.now) (value_of c.args.nodes.now n)) misfits.items))
    same c.misfits_by.ensures.misfits
