use Rattle.std.proofs.Common.{◌∙◌, ap}
use Rattle.facet_solver_shape.specs.Fields.{FieldView}
use Rattle.facet_solver_shape.specs.Resolved.{with_catch_all}
use Rattle.facet_solver.specs.build.Build.{build_of}
use Rattle.facet_solver.proofs.Outcome.{taken-catch_all, take_all-one}
use Rattle.facet_solver.proofs.Emissions.{catch_all-part}
use Rattle.facet_solver.proofs.build.emit.emit_catch_all.Goals as goal

pub returns : goal.returns
returns c =
    let part = catch_all-part (build_of c.args.walker.now.build) c.args.field.now c.args.place.now c.args.target in
    let r = c.args.resolution.now in
    let info = c.in_ok-info.info in
    let made = c.in_ok-set_catch_all_map.ensures.ok ∙ ap (λ (f : FieldView). with_catch_all r f.category info) c.info.view_is in
    rw (part, ← c.in_ok-info.ensures) (take_all-one r _ ∙ taken-catch_all r c.set_catch_all_map.new.self info made)
