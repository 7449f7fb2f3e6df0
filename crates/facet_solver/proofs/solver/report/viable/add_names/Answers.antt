use Rattle.std.proofs.Common.{map, ap, ◌∙◌}
use Rattle.facet_solver_shape.specs.Fields.{entry_view, FieldView}
use Rattle.facet_solver_shape.specs.Names.{Name}
use Rattle.std.proofs.Common.{List}
use Rattle.facet_solver.specs.solver.Report.{resolution_field_names}
use Rattle.facet_solver.proofs.NameSets.{fills_more, filled_both, in_both, names_of_entries}
use Rattle.facet_solver.proofs.solver.report.viable.add_names.Goals as goal

pub loop-field-init : goal.loop-field-init
loop-field-init c = λ q.
    ap (λ (names : List Name). in_both c.args.names.now.keys names q)
    (ap names_of_entries (ap (map entry_view) c.into_iter-field-iterator.ensures.into_iter_gives.0 ∙ c.fields-field-items.ensures.in_order))

pub loop-field-preserved : goal.loop-field-preserved
loop-field-preserved c =
    let name = ap (λ (f : FieldView). f.name) c.field.view_is in
    let before = rw (c.in-Some.ensures.steps, ← name) at c.loop-field.invariant in
    fills_more c.loop-field.names.keys c.insert.new.self.keys c.field.inside.serialized_name _
    (in_both c.args.names.now.keys (resolution_field_names c.args.resolution.now)) before c.in_ok-insert.ensures.keys

pub returns : goal.returns
returns c =
    filled_both c.args.names.now.keys c.loop-field.names.keys (resolution_field_names c.args.resolution.now) (rw c.in-None.ensures.steps.0 at c.loop-field.invariant)
