use Rattle.std.proofs.Common.{ap, map, refl, sym, ◌∙◌}
use Rattle.std.proofs.lemmas.List.{nil_from_length}
use Rattle.facet_solver_shape.specs.Keys.{key_of}
use Rattle.facet_solver_shape.specs.Resolved.{names_view}
use Rattle.facet_solver.specs.solver.Failure.{is_met}
use Rattle.facet_solver.proofs.ByName.{all_met}
use Rattle.facet_solver.proofs.Cursor.{each_of_fields}
use Rattle.facet_solver.proofs.solver.conditions.viable.is_viable.Goals as goal

pub returns-then-is_empty : goal.returns-then-is_empty
returns-then-is_empty c =
    let names = c.required_field_names.result.now.keys in
    let empty = nil_from_length names (c.if-is_empty.ensures.0 refl) in
    sym (all_met (map key_of c.args.seen.now.keys) c.args.resolution.now c.required_field_names.ensures.of_fields (sym c.required_field_names.ensures.view ∙ ap names_view empty))

pub returns : goal.returns
returns c =
    c.are_met.ensures
    ∙ each_of_fields c.fields.result.now.entries c.args.resolution.now.fields (is_met (map key_of c.args.seen.now.keys)) c.fields.ensures.in_order
