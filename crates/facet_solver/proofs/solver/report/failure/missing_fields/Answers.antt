use Rattle.std.proofs.Common.{List, map, ap, refl, sym, ◌∙◌}
use Rattle.facet_solver_shape.specs.Fields.{FieldView, entry_view}
use Rattle.facet_solver_shape.specs.Keys.{Key}
use Rattle.facet_solver_shape.specs.declared.resolution.key.FieldKey.{FieldKey}
use Rattle.facet_solver.specs.build.Build.{Catalogue}
use Rattle.facet_solver.specs.solver.Failure.{missing_field}
use Rattle.facet_solver.specs.error.ErrorView.{MissingView, missing_view}
use Rattle.facet_solver.proofs.Left.{left_end, left_none, left_one, left_start, map_pushed}
use Rattle.facet_solver.proofs.Missing.{met_left, missing_among, missing_left}
use Rattle.facet_solver.proofs.solver.report.failure.missing_fields.Goals as goal

abbrev lacked : Catalogue → List Key → List (FieldKey × FieldView) → List MissingView
lacked catalogue seen entries = missing_among catalogue seen (map (λ e. e.1) (map entry_view entries))

pub loop-field-init : goal.loop-field-init
loop-field-init c = λ seen are.
    left_start (lacked c.args.shapes.now seen) (map missing_view c.new-fields.result.items) c.into_iter-field-iterator.result c.into_iter-field-iterator.result
    (ap (map missing_view) c.new-fields.ensures.items) refl
    ∙ ap (λ (entries : List (Key × FieldView)). missing_among c.args.shapes.now seen (map (λ e. e.1) entries))
    (ap (map entry_view) c.into_iter-field-iterator.ensures.into_iter_gives.0 ∙ c.fields-field-items.ensures.in_order)

pub loop-field-preserved-in_ok-push : goal.loop-field-preserved-in_ok-push
loop-field-preserved-in_ok-push c = λ seen are.
    let field = c.in-Some.field.now in
    left_one (lacked c.args.shapes.now seen) (map missing_view c.loop-field.fields.items) c.loop-field.field-iterator c.next.new.self _ _
    (c.loop-field.invariant seen are) c.in-Some.ensures.steps
    (map missing_view c.push.new.self.items) (missing_field c.args.shapes.now field)
    (map_pushed missing_view c.loop-field.fields.items c.push.new.self.items c.in_ok-missing_field.field-0 (missing_field c.args.shapes.now field) c.in_ok-push.ensures.items c.in_ok-missing_field.ensures)
    (missing_left c.args.shapes.now seen field (map (λ (e : Key × FieldView). e.1) (map entry_view c.next.new.self)) (sym (c.meet.ensures seen are) ∙ c.if-not-meet.true))

pub loop-field-preserved : goal.loop-field-preserved
loop-field-preserved c = λ seen are.
    let field = c.in-Some.field.now in
    left_none (lacked c.args.shapes.now seen) (map missing_view c.loop-field.fields.items) c.loop-field.field-iterator c.next.new.self _ _
    (c.loop-field.invariant seen are) c.in-Some.ensures.steps
    (met_left c.args.shapes.now seen field (map (λ (e : Key × FieldView). e.1) (map entry_view c.next.new.self)) (sym (c.meet.ensures seen are) ∙ c.if-not-meet.false))

pub returns : goal.returns
returns c = λ seen are.
    left_end (lacked c.args.shapes.now seen) (map missing_view c.loop-field.fields.items) c.loop-field.field-iterator _
    (c.loop-field.invariant seen are) c.in-None.ensures.steps.0 refl
