use Rattle.std.proofs.Common.{◌∷◌, [], ap, sym, ◌∙◌, subst}
use Rattle.facet_solver_shape.specs.Resolved.{Resolved, with_key_path}
use Rattle.facet_solver.specs.build.Emissions.{emit_selector_by}
use Rattle.facet_solver.specs.build.Nested.{KeyPath, content_paths}
use Rattle.facet_solver.specs.build.Outcome.{Gives, take_all}
use Rattle.facet_solver_shape.specs.Representation.{Repr}
use Rattle.facet_solver.specs.build.Place.{chosen_of}
use Rattle.facet_solver.specs.build.Build.{build_of, repr_for}
use Rattle.facet_solver.proofs.Outcome.{gives-stopped, take_all-both, take_all-nil, take_all-one, taken-paths}
use Rattle.facet_solver.proofs.Emissions.{selector-flattened, selector-internal, selector-adjacent}
use Rattle.facet_solver.proofs.NestedSets.{named_last}
use Rattle.facet_solver.proofs.Serving.{chosen_paths}
use Rattle.facet_solver.proofs.build.emit.emit_selector.Goals as goal

pub returns-in-Flattened : goal.returns-in-Flattened
returns-in-Flattened c =
    let part = selector-flattened (repr_for (build_of c.args.walker.now.build) c.args.chosen.now.shape.now) (build_of c.args.walker.now.build) (chosen_of c.args.chosen.now) c.args.place.now c.in-Flattened.ensures in
    rw part (take_all-nil c.args.resolution.now)

pub returns-in-ExternallyTagged : goal.returns-in-ExternallyTagged
returns-in-ExternallyTagged c =
    let emitted = λ (repr : Repr). emit_selector_by repr (build_of c.args.walker.now.build) (chosen_of c.args.chosen.now) c.args.place.now in
    subst (λ (repr : Repr). Gives (take_all c.args.resolution.now (emitted repr)) c.add_external_selector.result c.add_external_selector.new.resolution)
    c.in-ExternallyTagged.ensures c.add_external_selector.ensures

pub returns-in-InternallyTagged : goal.returns-in-InternallyTagged
returns-in-InternallyTagged c =
    let part = selector-internal (repr_for (build_of c.args.walker.now.build) c.args.chosen.now.shape.now) (build_of c.args.walker.now.build) (chosen_of c.args.chosen.now) c.args.place.now c.in-InternallyTagged.tag.now c.in-InternallyTagged.ensures in
    rw part c.add_selector.ensures

pub returns-in_err-add_selector-in-AdjacentlyTagged :
    goal.returns-in_err-add_selector-in-AdjacentlyTagged
returns-in_err-add_selector-in-AdjacentlyTagged c =
    let parts = selector-adjacent (repr_for (build_of c.args.walker.now.build) c.args.chosen.now.shape.now) (build_of c.args.walker.now.build) (chosen_of c.args.chosen.now) c.args.place.now c.in-AdjacentlyTagged.tag.now c.in-AdjacentlyTagged.content.now c.in-AdjacentlyTagged.ensures in
    rw parts
    (gives-stopped c.from_residual.result c.add_selector-in-AdjacentlyTagged.new.resolution c.args.resolution.now _ _ _ c.from_residual.ensures.1 c.in_err-add_selector-in-AdjacentlyTagged.ensures)

pub returns-in_ok-add_key_path-in-AdjacentlyTagged :
    goal.returns-in_ok-add_key_path-in-AdjacentlyTagged
returns-in_ok-add_key_path-in-AdjacentlyTagged c =
    let parts = selector-adjacent (repr_for (build_of c.args.walker.now.build) c.args.chosen.now.shape.now) (build_of c.args.walker.now.build) (chosen_of c.args.chosen.now) c.args.place.now c.in-AdjacentlyTagged.tag.now c.in-AdjacentlyTagged.content.now c.in-AdjacentlyTagged.ensures in
    let content = c.in-AdjacentlyTagged.content.now in
    let s = c.add_selector-in-AdjacentlyTagged.new.resolution in
    let behind = chosen_paths c.args.walker.now.build.shapes.now c.args.chosen.now content s c.add_paths_behind_content.new.resolution c.requires.chosen c.in_ok-add_paths_behind_content-in-AdjacentlyTagged.ensures.ok in
    let added = c.in_ok-add_key_path-in-AdjacentlyTagged.ensures.ok
    ∙ ap (λ (p : KeyPath). with_key_path c.add_paths_behind_content.new.resolution p) c.in_ok-one_name_path-in-AdjacentlyTagged.ensures
    ∙ ap (λ (r : Resolved). with_key_path r (content ∷ [])) behind
    ∙ sym (named_last s content (content_paths c.args.walker.now.build.shapes.now c.args.chosen.now.variant.now)) in
    rw parts
    (take_all-both c.args.resolution.now s c.add_key_path.new.self _ _ c.in_ok-add_selector-in-AdjacentlyTagged.ensures
    (take_all-one _ _ ∙ taken-paths s c.add_key_path.new.self _ added))
