use Rattle.facet_solver_checker.proofs.SettledPlaces.{all_settled, pairs_on}
use Rattle.facet_solver_witnesses.specs.declared.place.Fork.TheVariants as forks
use Rattle.facet_solver_checker.proofs.places.places_left.Goals as goal

pub returns : goal.returns
returns c =
    let plan = c.args.tables.now.plan.now in
    let apart = c.args.tables.now.apart.now in
    let before = c.add_lists.new.places.items in
    let after = c.add_enums.new.places.items in
    all_settled plan apart after
    (λ list part n is.
    pairs_on plan apart before after c.in_ok-add_enums.ensures.grows (forks.Selection list part) n
    (c.in_ok-add_lists.ensures.settled list part n is))
    c.in_ok-add_enums.ensures.settled
