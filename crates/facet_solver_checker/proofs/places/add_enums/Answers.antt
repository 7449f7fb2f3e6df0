use Rattle.std.proofs.Common.{◌∙◌, ◌<◌, arith, length, refl, subst}
use Rattle.std.proofs.lemmas.Option.{slice_get_read, slice_get_within}
use Rattle.facet_solver_witnesses.specs.declared.place.Fork.TheVariants as forks
use Rattle.facet_solver_checker.specs.Forks.{AreSettled}
use Rattle.facet_solver_checker.proofs.SettledPlaces.{enum_ways, enums_more, grows_on}
use Rattle.facet_solver_checker.proofs.places.add_enums.Goals as goal

pub loop-target-preserved : goal.loop-target-preserved
loop-target-preserved c =
    let plan = c.args.tables.now.plan.now in
    let apart = c.args.tables.now.apart.now in
    let i = c.loop-target.target in
    let before = c.loop-target.places.items in
    let after = c.add_pairs.new.places.items in
    let grows = c.in_ok-add_pairs.ensures.grows in
    let t = c.index.result.now in
    let within : i < length plan.targets.items = omega arith in
    let there = slice_get_read plan.targets.items (length plan.targets.items) i t refl within
    c.index.ensures in (
      grows_on c.args.places.now.items before after c.loop-target.invariant.0 grows,
      enums_more plan apart before after grows i c.loop-target.invariant.1
          (λ n is.
          subst (AreSettled plan apart after (forks.Enum i))
          (c.ways_of-count.ensures ∙ enum_ways plan i n t there is)
          c.in_ok-add_pairs.ensures.settled),
    )

pub returns-clause-settled : goal.returns-clause-settled
returns-clause-settled c = λ target n is.
    let within : target < length c.args.tables.now.plan.now.targets.items =
    slice_get_within c.args.tables.now.plan.now.targets.items target is.0 is.1 in
    c.loop-target.invariant.1 target n (omega (arith, within)) is
