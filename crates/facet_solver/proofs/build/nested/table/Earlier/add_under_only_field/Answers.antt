use Rattle.std.proofs.Common.{sym, ◌∙◌, subst}
use Rattle.std.specs.Prelude.{OnOk}
use Rattle.facet_solver.specs.build.Nested.{KeyPaths, entered_view, if_entered, under_shape, through_field}
use Rattle.facet_solver.specs.build.NestedTable.{HasMore, IsFilled}
use Rattle.facet_solver.proofs.NestedFields.{second_of}
use Rattle.facet_solver.proofs.NestedSets.{union-none}
use Rattle.facet_solver.proofs.NestedTable.{asked_where_entered, by_field, by_shape, when_entered}
use Rattle.facet_solver.proofs.build.nested.table.Earlier.add_under_only_field.Goals as goal

pub add_under-requires-clause-filled : goal.add_under-requires-clause-filled
add_under-requires-clause-filled c =
    let earlier = c.args.self in
    asked_where_entered (IsFilled earlier.entries.now) (entered_view earlier.entered) earlier.shapes.now c.args.field.now c.requires.asked
    (second_of _ _ (sym c.is_entered_by.ensures ∙ c.if-is_entered_by.true))

pub returns-then-is_entered_by : goal.returns-then-is_entered_by
returns-then-is_entered_by c =
    let earlier = c.args.self in
    let e = entered_view earlier.entered in
    let cat = earlier.shapes.now in
    let f = c.args.field.now in
    let both = sym c.is_entered_by.ensures ∙ c.if-is_entered_by.true in
    subst (λ (ps : KeyPaths). OnOk c.add_under.result (HasMore earlier ps c.args.gathered.now.items c.add_under.new.gathered.items))
    (sym (when_entered e cat f.shape (second_of _ _ both)) ∙ sym (by_shape e cat (if_entered e cat) (under_shape e cat) f both))
    c.add_under.ensures

pub returns-else-is_entered_by : goal.returns-else-is_entered_by
returns-else-is_entered_by c =
    let earlier = c.args.self in
    let e = entered_view earlier.entered in
    let cat = earlier.shapes.now in
    let f = c.args.field.now in
    let both = sym c.is_entered_by.ensures ∙ c.if-is_entered_by.false in
    subst (λ (ps : KeyPaths). OnOk c.add_through_field.result (HasMore earlier ps c.args.gathered.now.items c.add_through_field.new.gathered.items))
    (sym (union-none (through_field e cat f)) ∙ sym (by_field e cat (if_entered e cat) (under_shape e cat) f both))
    c.add_through_field.ensures
