use Rattle.std.proofs.Common.{ap, false, map, not, ◌∙◌}
use Rattle.std.specs.Option.{option_map_or}
use Rattle.facet_solver_shape.specs.Keys.{key_of}
use Rattle.facet_solver.specs.build.Build.{Catalogue}
use Rattle.facet_solver.specs.solver.Failure.{missing_fields, names_where}
use Rattle.facet_solver.specs.Resolutions.{has_key}
use Rattle.facet_solver.proofs.SeenEntries.{unknown_names}
use Rattle.facet_solver.proofs.solver.report.failure.failure.Goals as goal

pub returns : goal.returns
returns c =
    let seen = map key_of c.args.report.now.seen.now.keys in
    let schema = c.args.report.now.schema.now in
    let unknown = c.in_ok-names_without.ensures ∙ unknown_names schema seen c.args.index c.args.entries.now c.requires.entries ∙ (λ i. names_where (λ key. not (option_map_or (has_key key) (c.requires.place i) false)) seen) in
    let missing = c.in_ok-missing_fields.ensures seen c.requires.names ∙ ap (λ (all : Catalogue). missing_fields all seen c.args.resolution.now) c.shapes-shapes.ensures in
    λ i. record {
      variant_name = c.in_ok-describe.ensures i;
      missing_fields = missing i;
      unknown_fields = unknown i;
      suggestion_matches = 0;
    }
