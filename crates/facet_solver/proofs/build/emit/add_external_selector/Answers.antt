use Rattle.std.proofs.Common.{ap, ◌∙◌}
use Rattle.facet_solver_shape.specs.Fields.{FieldView}
use Rattle.facet_solver.specs.build.Build.{build_of}
use Rattle.facet_solver.specs.build.Place.{chosen_of}
use Rattle.facet_solver.proofs.Outcome.{refused-field_and_paths, taken-named_field}
use Rattle.facet_solver.proofs.Emissions.{selector-external, selector-name}
use Rattle.facet_solver.proofs.Serving.{chosen_paths}
use Rattle.facet_solver.proofs.build.emit.add_external_selector.Goals as goal

pub returns-in_err-add_field : goal.returns-in_err-add_field
returns-in_err-add_field c =
    let part = selector-external (build_of c.args.walker.now.build) (chosen_of c.args.chosen.now) c.args.place.now c.as_str-name.result.now c.as_str-name.ensures.value in
    rw (part, ← c.in_ok-info.ensures)
    (refused-field_and_paths c.from_residual-in_err-add_field.result c.add_field.new.self c.args.resolution.now c.in_ok-info.info _ _ c.from_residual-in_err-add_field.ensures.1 c.in_err-add_field.ensures.refused)

pub returns : goal.returns
returns c =
    let part = selector-external (build_of c.args.walker.now.build) (chosen_of c.args.chosen.now) c.args.place.now c.as_str-name.result.now c.as_str-name.ensures.value in
    let added = chosen_paths c.args.walker.now.build.shapes.now c.args.chosen.now c.as_str-name.result.now c.add_field.new.self c.add_paths_behind_content.new.resolution c.requires.chosen c.in_ok-add_paths_behind_content.ensures.ok in
    let name = ap (λ (f : FieldView). f.name) c.in_ok-info.ensures ∙ selector-name (build_of c.args.walker.now.build) (chosen_of c.args.chosen.now) c.args.place.now c.as_str-name.result.now in
    rw (part, ← c.in_ok-info.ensures)
    (taken-named_field c.args.resolution.now c.add_field.new.self c.add_paths_behind_content.new.resolution c.in_ok-info.info c.as_str-name.result.now _ name c.in_ok-add_field.ensures.fresh c.in_ok-add_field.ensures.ok added)
