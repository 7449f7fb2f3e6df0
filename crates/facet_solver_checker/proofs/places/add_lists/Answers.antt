use Rattle.std.proofs.Common.{◌≡◌, ◌<◌, arith, length, refl, subst}
use Rattle.std.proofs.lemmas.Option.{slice_get_read, slice_get_within}
use Rattle.facet_solver_checker.specs.Forks.{IsPartFork}
use Rattle.facet_solver_checker.proofs.SettledPlaces.{grows_on, lists_more, part_fork}
use Rattle.facet_solver_checker.proofs.places.add_lists.Goals as goal

pub loop-list-preserved : goal.loop-list-preserved
loop-list-preserved c =
    let plan = c.args.tables.now.plan.now in
    let i = c.loop-list.list in
    let before = c.loop-list.places.items in
    let after = c.add_list.new.places.items in
    let grows = c.in_ok-add_list.ensures.grows in
    let l = c.index.result.now in
    let within : i < length plan.lists.items = omega arith in
    let there = slice_get_read plan.lists.items (length plan.lists.items) i l refl within
    c.index.ensures in
    let same : l.parts.items ≡ c.deref.result.now = cc in (
      grows_on c.args.places.now.items before after c.loop-list.invariant.0 grows,
      lists_more plan c.args.tables.now.apart.now before after grows i c.loop-list.invariant.1
          (λ part n is.
          c.in_ok-add_list.ensures.settled part n
          (subst (λ ps. IsPartFork ps part n) same (part_fork plan i part n l there is))),
    )

pub returns-clause-settled : goal.returns-clause-settled
returns-clause-settled c = λ list part n is.
    let within : list < length c.args.tables.now.plan.now.lists.items =
    slice_get_within c.args.tables.now.plan.now.lists.items list is.0 is.1 in
    c.loop-list.invariant.1 list part n (omega (arith, within)) is
