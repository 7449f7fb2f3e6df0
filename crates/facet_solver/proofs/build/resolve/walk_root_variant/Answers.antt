use Rattle.std.proofs.Common.{length, ap, sym, ◌∙◌, subst, IsSome}
use Rattle.facet_solver_shape.specs.Catalogues.{FieldsBelow}
use Rattle.facet_solver.specs.build.Build.{build_of}
use Rattle.facet_solver.specs.build.Outcome.{effect}
use Rattle.facet_solver.specs.build.Reached.{ServesFields}
use Rattle.facet_solver.specs.build.Walk.{Walked}
use Rattle.facet_solver.proofs.Roles.{content_of-below}
use Rattle.facet_solver.proofs.Serving.{content_served}
use Rattle.facet_solver.proofs.Walk.{content-at, selected, selected-some, selected-stops, walks-exit, walks-same}
use Rattle.facet_solver.proofs.build.resolve.walk_root_variant.Goals as goal

pub returns-in_err-add_selection : goal.returns-in_err-add_selection
returns-in_err-add_selection c =
    walks-exit c.from_residual.result c.add_selection.new.resolution _ _ c.from_residual.ensures.1
    (selected-stops (build_of c.args.walker.now.build) c.args.shape.now c.args.variant.now c.args.indices.now c.args.resolution.now c.empty.result _ c.empty.ensures c.requires.walked c.in_err-add_selection.ensures)

pub walk_fields-requires-clause-below : goal.walk_fields-requires-clause-below
walk_fields-requires-clause-below c =
    let cat = c.args.walker.now.build.shapes.now in
    subst (FieldsBelow (length cat)) (sym c.in_ok-fields.ensures.fields)
    (content_of-below cat c.requires.ready.checked (length cat) c.args.variant.now c.requires.below)

pub walk_fields-requires-clause-serves : goal.walk_fields-requires-clause-serves
walk_fields-requires-clause-serves c =
    let build = build_of c.args.walker.now.build in
    subst (ServesFields build c.args.walker.now.tables) (sym c.in_ok-fields.ensures.fields)
    (content_served build c.args.walker.now.tables c.args.variant.now c.requires.serves)

pub walk_fields-requires-clause-walked : goal.walk_fields-requires-clause-walked
walk_fields-requires-clause-walked c =
    let build = build_of c.args.walker.now.build in
    let v = c.args.variant.now in
    let inside = c.enter_root_variant.new.self in
    subst (λ (w : Walked). IsSome w)
    (content-at build v inside c.args.indices.now c.in_ok-fields.fields.now c.enter_content.new.place c.in_ok-fields.ensures.fields c.in_ok-fields.ensures.place)
    (selected-some build c.args.shape.now v c.args.indices.now inside c.in_ok-enter_root_variant.ensures c.requires.walked)

pub returns : goal.returns
returns c =
    let build = build_of c.args.walker.now.build in
    let v = c.args.variant.now in
    let inside = c.enter_root_variant.new.self in
    walks-same c.walk_fields.result c.walk_fields.new.resolution _ _
    (selected build c.args.shape.now v c.args.indices.now inside c.in_ok-enter_root_variant.ensures c.args.resolution.now c.add_selection.new.resolution c.empty.result c.empty.ensures c.in_ok-add_selection.ensures
    ∙ ap (effect c.add_selection.new.resolution)
    (content-at build v inside c.args.indices.now c.in_ok-fields.fields.now c.enter_content.new.place c.in_ok-fields.ensures.fields c.in_ok-fields.ensures.place))
    c.walk_fields.ensures
