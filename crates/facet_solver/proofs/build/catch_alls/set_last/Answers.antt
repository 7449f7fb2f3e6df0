use Rattle.std.proofs.Common.{◌≡◌, Option, Some, None, ap, arith, length, sym, ◌∙◌, refl, take, ℕ}
use Rattle.std.specs.Option.{option_copied}
use Rattle.facet_solver_shape.specs.Fields.{FieldView}
use Rattle.facet_solver.specs.build.Build.{build_of}
use Rattle.facet_solver.specs.build.CatchAlls.{emitted_by, last_catch_all, last_with, with_last}
use Rattle.facet_solver.specs.build.Place.{Path}
use Rattle.facet_solver.proofs.CatchAlls.{at-block, at-catch_all, found-alone, found-below, found-has, last-is, last_at, last_at-none, no_other_role, block-alone}
use Rattle.facet_solver.proofs.Listing.{block-below}
use Rattle.facet_solver.proofs.Roles.{FieldsBelow-mono, FieldsBelow-limit, limit_of, limit_of-le}
use Rattle.facet_solver.proofs.WalkFrames.{inside-same, inside-then}
use Rattle.facet_solver.proofs.build.catch_alls.set_last.Goals as goal

pub loop-field-init : goal.loop-field-init
loop-field-init c = (refl, (inside-same c.args.place.now, (c.requires.below, (c.requires.alone, refl))))

pub loop-field-preserved : goal.loop-field-preserved
loop-field-preserved c =
    let walker = c.args.walker.now in
    let build = build_of walker.build in
    let table = walker.contribution.by_index.items in
    let category = c.args.category in
    let so_far = c.loop-field.invariant in
    let fs = c.loop-field.fields.now in
    let place = c.loop-field.place in
    let f = c.in-Some.field.now in
    let is : Some f ≡ last_with table build category fs = sym (ap option_copied c.in-Some.is) ∙ c.last_with.ensures in
    let inner = c.in-Block.flattened.now in
    let below = block-below walker.build.shapes.now c.requires.ready.checked f c.in-Block.field-0 inner c.in-Block.ensures in
    let there = found-below table build category (length walker.build.shapes.now) fs f so_far.1.1.0 is in
    let alone = found-alone table build category fs f is in
    let same : last_catch_all category (emitted_by build fs place) ≡ last_catch_all category (emitted_by build inner c.enter_field.new.self) =
    last-is build c.requires.ready.checked table c.requires.ready.contribution category (length walker.build.shapes.now) fs place so_far.1.1.0 so_far.1.1.1.0
    ∙ ap (last_at build c.requires.ready.checked table c.requires.ready.contribution category place) (sym is)
    ∙ at-block build c.requires.ready.checked table c.requires.ready.contribution category f place c.in-Block.field-0 inner c.in-Block.ensures alone
    ∙ ap (λ (inside : Path). last_catch_all category (emitted_by build inner inside)) (sym c.in_ok-enter_field-in-Block.ensures) in (
      sym same ∙ so_far.0,
      (
        inside-then c.args.place.now place _ c.enter_field.new.self so_far.1.0 c.in_ok-enter_field-in-Block.ensures,
        (
          FieldsBelow-mono f.shape (length walker.build.shapes.now) inner (omega (arith, there)) below,
          (
            block-alone build c.requires.ready.checked table c.requires.ready.contribution category f place c.in-Block.field-0 inner c.in-Block.ensures alone,
            so_far.1.1.1.1,
          ),
        ),
      ),
    )

pub loop-field-smaller : goal.loop-field-smaller
loop-field-smaller c =
    let walker = c.args.walker.now in
    let build = build_of walker.build in
    let table = walker.contribution.by_index.items in
    let fs = c.loop-field.fields.now in
    let f = c.in-Some.field.now in
    let is : Some f ≡ last_with table build c.args.category fs = sym (ap option_copied c.in-Some.is) ∙ c.last_with.ensures in
    let inner = c.in-Block.flattened.now in
    let below = block-below walker.build.shapes.now c.requires.ready.checked f c.in-Block.field-0 inner c.in-Block.ensures in
    let here = found-below table build c.args.category (limit_of fs) fs f (FieldsBelow-limit fs) is in
    let deeper = limit_of-le f.shape inner below in
    omega (arith, here, deeper)

pub unreachable-requires : goal.unreachable-requires
unreachable-requires c =
    let walker = c.args.walker.now in
    let build = build_of walker.build in
    let table = walker.contribution.by_index.items in
    let f = c.in-Some.field.now in
    let is : Some f ≡ last_with table build c.args.category c.loop-field.fields.now = sym (ap option_copied c.in-Some.is) ∙ c.last_with.ensures in
    no_other_role build c.requires.ready.checked table c.requires.ready.contribution c.args.category f c.loop-field.place c.role_of.result c.role_of.ensures c.in-Regular.is
    (found-has table build c.args.category c.loop-field.fields.now f is)

pub returns-in-CatchAll-clause-set : goal.returns-in-CatchAll-clause-set
returns-in-CatchAll-clause-set c =
    let walker = c.args.walker.now in
    let build = build_of walker.build in
    let table = walker.contribution.by_index.items in
    let category = c.args.category in
    let so_far = c.loop-field.invariant in
    let fs = c.loop-field.fields.now in
    let place = c.loop-field.place in
    let f = c.in-Some.field.now in
    let is : Some f ≡ last_with table build category fs = sym (ap option_copied c.in-Some.is) ∙ c.last_with.ensures in
    let same : last_catch_all category (emitted_by build c.args.fields.now c.args.place.now) ≡ Some c.in_ok-info-in-CatchAll.info =
    sym so_far.0
    ∙ last-is build c.requires.ready.checked table c.requires.ready.contribution category (length walker.build.shapes.now) fs place so_far.1.1.0 so_far.1.1.1.0
    ∙ ap (last_at build c.requires.ready.checked table c.requires.ready.contribution category place) (sym is)
    ∙ at-catch_all build c.requires.ready.checked table c.requires.ready.contribution category f place c.in-CatchAll.target c.in-CatchAll.ensures (found-has table build category fs f is)
    ∙ ap Some (sym c.in_ok-info-in-CatchAll.ensures) in
    rw (same, ← so_far.1.1.1.1) c.set_catch_all_map.ensures.ok

pub returns-clause-set : goal.returns-clause-set
returns-clause-set c =
    let walker = c.args.walker.now in
    let build = build_of walker.build in
    let table = walker.contribution.by_index.items in
    let category = c.args.category in
    let so_far = c.loop-field.invariant in
    let fs = c.loop-field.fields.now in
    let place = c.loop-field.place in
    let is_none : last_catch_all category (emitted_by build c.args.fields.now c.args.place.now) ≡ None =
    sym so_far.0
    ∙ last-is build c.requires.ready.checked table c.requires.ready.contribution category (length walker.build.shapes.now) fs place so_far.1.1.0 so_far.1.1.1.0
    ∙ ap (last_at build c.requires.ready.checked table c.requires.ready.contribution category place) (sym c.last_with.ensures ∙ ap option_copied c.in_default.is)
    ∙ last_at-none build c.requires.ready.checked table c.requires.ready.contribution category place in
    so_far.1.1.1.1 ∙ ap (λ (o : Option FieldView). with_last category o c.args.resolution.now) (sym is_none)

pub returns-clause-place : goal.returns-clause-place
returns-clause-place c =
    c.cut-2.ensures ∙ ap (λ (n : ℕ). take n c.loop-field.place) c.depth-depth.ensures ∙ c.loop-field.invariant.1.0
