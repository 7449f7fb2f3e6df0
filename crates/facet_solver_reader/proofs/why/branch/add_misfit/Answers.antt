use Rattle.std.proofs.Common.{subst, sym}
use Rattle.std.specs.List.{All}
use Rattle.facet_solver_reader.specs.Nodes.{value_of}
use Rattle.facet_solver_reader.specs.Tables.{rules_at}
use Rattle.facet_solver_reader.specs.Why.{IsMisfit}
use Rattle.facet_solver_reader.specs.declared.read_error.Misfit.{Misfit}
use Rattle.facet_solver_reader.proofs.Quantifiers.{all_of_last}
use Rattle.facet_solver_reader.proofs.why.branch.add_misfit.Goals as goal

pub returns-in-Ok-push-clause-misfits : goal.returns-in-Ok-push-clause-misfits
returns-in-Ok-push-clause-misfits c =
    let P : Misfit → Type 0 = IsMisfit (rules_at c.args.tables.now)
    (value_of c.args.nodes.now c.args.asked.now.object.node) in
    subst (All P) (sym c.in-Ok-push.ensures.items)
    (all_of_last P c.args.misfits.now.items c.in-Ok.misfit c.requires.misfits
    c.in-Ok.ensures.misfit)
