use Rattle.facet_solver_checker.proofs.SettledPlaces.{grows_on, pairs_more}
use Rattle.facet_solver_checker.proofs.places.add_pairs.Goals as goal

pub loop-second-preserved : goal.loop-second-preserved
loop-second-preserved c =
    let before = c.loop-second.places.items in
    let after = c.add_before.new.places.items in
    let grows = c.in_ok-add_before.ensures.grows in (
      grows_on c.args.places.now.items before after c.loop-second.invariant.0 grows,
      pairs_more c.args.tables.now.plan.now c.args.tables.now.apart.now before after grows
          c.args.fork
          c.loop-second.second c.loop-second.invariant.1 c.in_ok-add_before.ensures.settled,
    )
