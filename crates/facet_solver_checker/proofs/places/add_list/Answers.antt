use Rattle.std.proofs.Common.{◌<◌, arith, length, refl}
use Rattle.std.proofs.lemmas.Option.{slice_get_read, slice_get_within}
use Rattle.facet_solver_checker.proofs.SettledPlaces.{grows_on, parts_more, ways_of_part}
use Rattle.facet_solver_checker.proofs.places.add_list.Goals as goal

pub loop-part-preserved : goal.loop-part-preserved
loop-part-preserved c =
    let ps = c.args.parts.now in
    let i = c.loop-part.part in
    let before = c.loop-part.places.items in
    let after = c.add_part.new.places.items in
    let grows = c.in_ok-add_part.ensures.grows in
    let p = c.index-parts-part.result in
    let there = slice_get_read ps (length ps) i p refl c.loop-part-test.true
    c.index-parts-part.is in (
      grows_on c.args.places.now.items before after c.loop-part.invariant.0 grows,
      parts_more c.args.tables.now.plan.now c.args.tables.now.apart.now before after grows ps
          c.args.list i
          c.loop-part.invariant.1
          (λ n is. c.in_ok-add_part.ensures.settled n (ways_of_part ps i n p there is)),
    )

pub returns-clause-settled : goal.returns-clause-settled
returns-clause-settled c = λ part n is.
    let within : part < length c.args.parts.now =
    slice_get_within c.args.parts.now part is.0 is.1 in
    c.loop-part.invariant.1 part n (omega (arith, within)) is
