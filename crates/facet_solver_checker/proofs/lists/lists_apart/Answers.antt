use Rattle.std.proofs.Common.{subst}
use Rattle.facet_solver_reader.specs.declared.plan.PlannedEnd.TheVariants as planned
use Rattle.facet_solver_checker.proofs.EndsApart.{first_lists, no_list}
use Rattle.facet_solver_checker.proofs.TextsApart.{refused}
use Rattle.facet_solver_checker.proofs.lists.lists_apart.Goals as goal

pub returns-in-List : goal.returns-in-List
returns-in-List c = λ h p.
    first_lists p c.args.apart.now c.args.first.now (planned.List c.in-List.item)
    c.args.second.now c.in-List.is (c.from_list.ensures h p)

pub returns-in-Tuple : goal.returns-in-Tuple
returns-in-Tuple c = λ h p.
    first_lists p c.args.apart.now c.args.first.now (planned.Tuple c.in-Tuple.items)
    c.args.second.now c.in-Tuple.is (c.from_tuple.ensures h p)

pub returns-in_default : goal.returns-in_default
returns-in_default c = λ h p.
    no_list p c.args.apart.now c.args.first.now c.args.second.now
    (refused c.reads_list.result _ c.reads_list.ensures h)
