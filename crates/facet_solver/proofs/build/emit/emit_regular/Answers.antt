use Rattle.std.proofs.Common.{ap, sym, ◌∙◌}
use Rattle.facet_solver_shape.specs.Fields.{FieldView}
use Rattle.facet_solver.specs.build.Build.{build_of}
use Rattle.facet_solver.proofs.Outcome.{refused-field_and_paths, taken-named_field}
use Rattle.facet_solver.proofs.Emissions.{regular-name, regular-part}
use Rattle.facet_solver.proofs.build.emit.emit_regular.Goals as goal

pub returns-in_err-add_field : goal.returns-in_err-add_field
returns-in_err-add_field c =
    let part = regular-part (build_of c.args.walker.now.build) c.args.field.now c.args.place.now in
    rw (part, ← c.in_ok-info.ensures)
    (refused-field_and_paths c.from_residual-in_err-add_field.result c.add_field.new.self c.args.resolution.now c.in_ok-info.info _ _ c.from_residual-in_err-add_field.ensures.1 c.in_err-add_field.ensures.refused)

pub returns : goal.returns
returns c =
    let part = regular-part (build_of c.args.walker.now.build) c.args.field.now c.args.place.now in
    let name = ap (λ (f : FieldView). f.name) c.in_ok-info.ensures ∙ regular-name (build_of c.args.walker.now.build) c.args.field.now c.args.place.now ∙ sym c.effective_name-name.ensures in
    rw (part, ← c.in_ok-info.ensures, ← c.effective_name-name.ensures)
    (taken-named_field c.args.resolution.now c.add_field.new.self c.add_paths_behind_field.new.resolution c.in_ok-info.info c.effective_name-name.result.now _ name c.in_ok-add_field.ensures.fresh c.in_ok-add_field.ensures.ok c.in_ok-add_paths_behind_field.ensures.ok)
