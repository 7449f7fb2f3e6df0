use Rattle.facet_solver_checker.proofs.TableTold.{all_told, is_told, planned_lower}
use Rattle.facet_solver_checker.proofs.checking.places_of.Goals as goal

pub all_atoms-requires : goal.all_atoms-requires
all_atoms-requires c = planned_lower c.args.plan.now c.requires

pub returns-clause-all : goal.returns-clause-all
returns-clause-all c =
    all_told c.args.plan.now c.in_ok-apart.apart c.in_ok-places.places.items
    c.in_ok-apart.ensures c.in_ok-places.ensures.all

pub returns-clause-certain : goal.returns-clause-certain
returns-clause-certain c =
    is_told c.args.plan.now c.in_ok-apart.apart c.in_ok-places.places.items
    c.in_ok-apart.ensures c.in_ok-places.ensures.certain
