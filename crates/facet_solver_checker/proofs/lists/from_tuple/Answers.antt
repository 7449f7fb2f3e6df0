use Rattle.std.proofs.Common.{Any, List, subst, ℕ, ◌≡◌, true}
use Rattle.facet_solver_reader.specs.declared.plan.PlannedEnd.TheVariants as planned
use Rattle.facet_solver_checker.specs.Aparts.{is_apart}
use Rattle.facet_solver_checker.specs.Apartness.{ArePlacesApart}
use Rattle.facet_solver_checker.proofs.EndsApart.{no_other_list, tuple_and_list, tuple_and_tuple}
use Rattle.facet_solver_checker.proofs.TextsApart.{refused}
use Rattle.facet_solver_checker.proofs.lists.from_tuple.Goals as goal

pub returns-in-List : goal.returns-in-List
returns-in-List c = λ h p.
    let apart = c.args.apart.now in
    tuple_and_list p apart c.in-List.item c.args.items.now c.args.end.now c.in-List.is
    (subst (λ (ns : List ℕ). Any (λ k. is_apart apart k c.in-List.item ≡ true) ns)
    c.deref.ensures.value (c.some_above.ensures h))

pub returns-in-Tuple : goal.returns-in-Tuple
returns-in-Tuple c = λ h p.
    let apart = c.args.apart.now in
    tuple_and_tuple p apart c.args.items.now c.in-Tuple.others c.args.end.now c.in-Tuple.is
    (subst (λ (ns : List ℕ). ArePlacesApart apart ns c.in-Tuple.others.items)
    c.deref-in-Tuple.ensures.value
    (subst (λ (ns : List ℕ). ArePlacesApart apart c.deref-in-Tuple.result.now ns)
    c.deref-in-Tuple-2.ensures.value (c.places_apart.ensures h)))

pub returns-in_default : goal.returns-in_default
returns-in_default c = λ h p.
    no_other_list p c.args.apart.now (planned.Tuple c.args.items.now) c.args.end.now
    (refused c.reads_list.result _ c.reads_list.ensures h)
