use Rattle.std.proofs.Common.{◌≡◌, [], ◌∷◌, ap, arith, sym, ◌∙◌, length}
use Rattle.facet_solver.specs.build.Nested.{entered_view, if_entered, under_shape, under_fields_step, through_fields}
use Rattle.facet_solver.proofs.NestedTable.{all_fields, both_ok, by_all_fields, by_only_field, same_fields}
use Rattle.facet_solver.proofs.build.nested.table.Earlier.under_variant.Goals as goal

pub returns-then-fields-eq1-clause-fields : goal.returns-then-fields-eq1-clause-fields
returns-then-fields-eq1-clause-fields c =
    let earlier = c.args.self in
    let e = entered_view earlier.entered in
    let cat = earlier.shapes.now in
    let fs = c.as_slice-fields.result.now in
    let f = c.visited.result.now in
    let one : length fs ≡ 1 = omega (arith, c.if-fields-eq1.true) in
    let under = under_fields_step e cat (if_entered e cat) (under_shape e cat) in
    both_ok _ _ _ c.new.result
    (λ fields stand lead.
    same_fields earlier (under (f ∷ [])) _ _ (by_only_field e cat (if_entered e cat) (under_shape e cat) fs f one c.visited.ensures.field ∙ ap under c.as_slice-fields.ensures.value)
    (all_fields earlier (under (f ∷ [])) _ _ fields c.in_ok-gathered.ensures.items c.in_ok-add_under_only_field.ensures stand lead))
    c.new.ensures.paths c.new.ensures.lead

pub returns-clause-fields : goal.returns-clause-fields
returns-clause-fields c =
    let earlier = c.args.self in
    let e = entered_view earlier.entered in
    let cat = earlier.shapes.now in
    let fs = c.as_slice-fields.result.now in
    let under = under_fields_step e cat (if_entered e cat) (under_shape e cat) in
    both_ok _ _ _ c.new-2.result
    (λ fields stand lead.
    same_fields earlier (through_fields e cat fs) _ _
    (sym (by_all_fields e cat (if_entered e cat) (under_shape e cat) fs (λ one. omega (arith, one, c.if-fields-eq1.false))) ∙ ap under c.as_slice-fields.ensures.value)
    (all_fields earlier (through_fields e cat fs) _ _ fields c.in_ok-gathered.ensures.items c.in_ok-add_through_fields.ensures.more stand lead))
    c.new-2.ensures.paths c.new-2.ensures.lead
