use Rattle.std.proofs.Common.{◌+◌, ap, sym, ◌∙◌, drop}
use Rattle.std.proofs.lemmas.List.{drop_more}
use Rattle.std.proofs.Math.ListN.{drop_of_length-le}
use Rattle.std.specs.Option.{option_and_then}
use Rattle.facet_solver_shape.specs.Names.{names_of}
use Rattle.facet_solver.specs.solver.ShapeAtPath.{shape_below}
use Rattle.facet_solver.proofs.solver.shape_at_path.shape_below.Goals as goal

pub loop-name-preserved : goal.loop-name-preserved
loop-name-preserved c =
    let cat = c.args.catalogue.now in
    let left = names_of (drop (c.loop-name.name-index + 1) c.args.path.now) in
    ap (option_and_then (shape_below cat left)) c.in_ok-shape.ensures
    ∙ ap (λ ns. shape_below cat (names_of ns) c.loop-name.shape) (sym (drop_more c.args.path.now c.loop-name.name-index _ c.loop-name-test.true))
    ∙ c.loop-name.invariant

pub returns-in_err-shape : goal.returns-in_err-shape
returns-in_err-shape c =
    let cat = c.args.catalogue.now in
    let left = names_of (drop (c.loop-name.name-index + 1) c.args.path.now) in
    c.from_residual.ensures
    ∙ ap (option_and_then (shape_below cat left)) c.in_err-shape.ensures
    ∙ ap (λ ns. shape_below cat (names_of ns) c.loop-name.shape) (sym (drop_more c.args.path.now c.loop-name.name-index _ c.loop-name-test.true))
    ∙ c.loop-name.invariant

pub returns : goal.returns
returns c =
    sym (ap (λ ns. shape_below c.args.catalogue.now (names_of ns) c.loop-name.shape) (drop_of_length-le c.args.path.now c.loop-name-test.false))
    ∙ c.loop-name.invariant
