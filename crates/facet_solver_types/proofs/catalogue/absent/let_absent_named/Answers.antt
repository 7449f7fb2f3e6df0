use Rattle.std.proofs.Common.{◌<◌, ◌≤◌, ◌∙◌, ap, arith, length, map, sym}
use Rattle.std.proofs.lemmas.List.{length-map}
use Rattle.facet_solver_types.specs.AbsentMembers.{let_absent_field}
use Rattle.facet_solver_types.specs.ShapeViews.{field_view}
use Rattle.facet_solver_types.proofs.InPlace.{changed_all, changed_more}
use Rattle.facet_solver_types.proofs.catalogue.absent.let_absent_named.Goals as goal

pub loop-field-preserved : goal.loop-field-preserved
loop-field-preserved c =
    let l = c.loop-field in
    let i = l.field-index in
    let before = c.args.fields.now in
    let rule = let_absent_field c.args.absences.now in
    let there : i < length l.fields = omega (arith, l.auto.fields, c.loop-field-test.true) in
    let within : i < length (map field_view before) = omega (arith, length-map before field_view, c.loop-field-test.true) in
    changed_more field_view rule (map field_view before) l.fields i c.field-item.result c.let_absent_field.new.field
    within there l.invariant c.field-item.is
    (c.let_absent_field.ensures ∙ ap (λ x. rule (field_view x)) (sym c.field-item.is))

pub returns : goal.returns
returns c =
    let l = c.loop-field in
    let before = c.args.fields.now in
    let over : length (map field_view before) ≤ l.field-index =
    omega (arith, length-map before field_view, c.loop-field-test.false) in
    l.invariant ∙ changed_all (let_absent_field c.args.absences.now) (map field_view before) l.field-index over
