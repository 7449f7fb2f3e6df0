use Rattle.std.proofs.Common.{IfOk, subst, sym}
use Rattle.facet_solver_reader.specs.PlanNumbers.{meaning_of}
use Rattle.facet_solver_reader.specs.Plans.{IsPlannedContent}
use Rattle.facet_solver_reader.specs.Rules.{Content}
use Rattle.facet_solver_reader.specs.Tables.{ContentIsServed}
use Rattle.facet_solver_reader.proofs.plan.contents.planned_content.Goals as goal

pub planned_of_content-requires-clause-served : goal.planned_of_content-requires-clause-served
planned_of_content-requires-clause-served c =
    subst (λ (x : Content). ContentIsServed c.args.tables.now x) (sym c.in_ok-content.ensures)
    c.requires.served

pub returns : goal.returns
returns c =
    subst
    (λ (x : Content). IfOk c.planned_of_content.result
    (IsPlannedContent (meaning_of c.args.tables.now c.args.numbers.now) x))
    c.in_ok-content.ensures c.planned_of_content.ensures
