use Rattle.std.proofs.Common.{◌∷◌, [], refl, sym}
use Rattle.facet_solver.specs.build.Nested.{no_paths, named}
use Rattle.facet_solver.specs.build.Emissions.{field_and_paths}
use Rattle.facet_solver.proofs.NestedSets.{behind-none}
use Rattle.facet_solver.proofs.Outcome.{refused-field_and_paths, taken-named_field}
use Rattle.facet_solver.proofs.build.emit.add_with_path.Goals as goal

pub returns-in_err-add_field : goal.returns-in_err-add_field
unfolding field_and_paths
returns-in_err-add_field c =
    let f = c.args.info in
    refused-field_and_paths c.from_residual.result c.add_field.new.self c.args.resolution.now f (named f.name no_paths) _ c.from_residual.ensures.1 c.in_err-add_field.ensures.refused

pub returns : goal.returns
unfolding field_and_paths
returns c =
    let u = c.add_field.new.self in
    let f = c.args.info in
    taken-named_field c.args.resolution.now u u f f.name no_paths refl c.in_ok-add_field.ensures.fresh c.in_ok-add_field.ensures.ok (sym (behind-none u (f.name ∷ [])))
