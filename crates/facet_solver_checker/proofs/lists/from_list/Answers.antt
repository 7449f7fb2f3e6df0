use Rattle.std.proofs.Common.{Any, List, subst, ℕ, ◌≡◌, true}
use Rattle.facet_solver_reader.specs.declared.plan.PlannedEnd.TheVariants as planned
use Rattle.facet_solver_checker.specs.Aparts.{is_apart}
use Rattle.facet_solver_checker.proofs.EndsApart.{list_and_tuple, no_other_list}
use Rattle.facet_solver_checker.proofs.TextsApart.{refused}
use Rattle.facet_solver_checker.proofs.lists.from_list.Goals as goal

pub returns-in-Tuple : goal.returns-in-Tuple
returns-in-Tuple c = λ h p.
    let apart = c.args.apart.now in
    list_and_tuple p apart c.args.item c.in-Tuple.items c.args.end.now c.in-Tuple.is
    (subst (λ (ns : List ℕ). Any (λ k. is_apart apart c.args.item k ≡ true) ns)
    c.deref.ensures.value (c.some_below.ensures h))

pub returns-in_default : goal.returns-in_default
returns-in_default c = λ h p.
    no_other_list p c.args.apart.now (planned.List c.args.item) c.args.end.now
    (refused c.reads_list.result _ c.reads_list.ensures h)
