use Rattle.facet_solver_checker.specs.Ambiguity.{AreAllPlaces, IsCertain}
use Rattle.facet_solver_checker.specs.Forks.{AllSettled}
use Rattle.facet_solver_checker.proofs.Unambiguous.{all_places_of, certain_of, if_ok}
use Rattle.facet_solver_checker.proofs.places.all_places.Goals as goal

pub places_left-requires : goal.places_left-requires
places_left-requires c =
    record {
      required = c.requires.required;
      touched = c.in_ok-touched.ensures;
      atoms = c.requires.atoms;
      len = c.requires.len;
    }

pub returns-clause-all : goal.returns-clause-all
returns-clause-all c =
    let plan = c.args.plan.now in
    let apart = c.args.apart.now in
    if_ok c.places_left.result (λ places. AllSettled plan apart places.items)
    (λ places. AreAllPlaces plan apart places.items)
    (λ places h. all_places_of plan apart places.items h) c.places_left.ensures

pub returns-clause-certain : goal.returns-clause-certain
returns-clause-certain c =
    let plan = c.args.plan.now in
    let apart = c.args.apart.now in
    if_ok c.places_left.result (λ places. AllSettled plan apart places.items)
    (λ places. IsCertain plan apart places.items)
    (λ places h. certain_of plan apart places.items h) c.places_left.ensures
