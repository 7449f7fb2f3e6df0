use Rattle.facet_solver_checker.proofs.SettledPlaces.{before_more, grows_on}
use Rattle.facet_solver_checker.proofs.places.add_before.Goals as goal

pub loop-first-preserved : goal.loop-first-preserved
loop-first-preserved c =
    let before = c.loop-first.places.items in
    let after = c.add_place.new.places.items in
    let grows = c.in_ok-add_place.ensures.grows in (
      grows_on c.args.places.now.items before after c.loop-first.invariant.0 grows,
      before_more c.args.tables.now.plan.now c.args.tables.now.apart.now before after grows
          c.args.fork c.args.second
          c.loop-first.first c.loop-first.invariant.1 c.in_ok-add_place.ensures.settled,
    )
