use Rattle.std.proofs.Common.{◌≡◌, ap, map, not, true, ◌∙◌}
use Rattle.std.specs.Prelude.{IsSome}
use Rattle.std.specs.FinMap as finite
use Rattle.facet_solver.specs.Fields.{FieldView, entry_view}
use Rattle.facet_solver_uses.specs.declared.choice_to_values.FieldValue.{FieldValue}
use Rattle.facet_solver_uses.specs.ChoiceToValues.{meant_field_at}
use Rattle.facet_solver_uses.proofs.ChoiceToValues.{in_middle, place_more, same_field, well_more}
use Rattle.facet_solver_uses.proofs.choice_to_values.members_of.Goals as goal
use Rattle.facet_solver_uses.proofs.choice_to_values.members_of.Goals.{else-field-via-then-field+else-is_none, else-field-via-else-field}

pub member_of-requires : goal.member_of-requires
member_of-requires c = λ member f is same.
    let r = c.args.resolution.now in
    let before = rw c.in-Some.ensures.steps at c.loop-field.invariant.place in
    let here = in_middle _ _ (finite.values r.fields) c.in-Some.field.now before in
    same_field r c.fields-field-items.ensures.stored f c.in-Some.field.now (c.requires member f is) here same

pub loop-field-preserved : goal.loop-field-preserved
loop-field-preserved c =
    let value : FieldValue = record { field = c.in-Some.field; member = c.in_ok-member.member } in
    let before = rw c.in-Some.ensures.steps at c.loop-field.invariant.place in
    let present : c.in-Some.field.now.is_required ≡ true → IsSome c.in_ok-member.member = λ required.
    elim c.else-field.branch [
      | else-field-via-then-field+else-is_none w ↦ w.is_none.ensures ∙ ap not w.if-is_none.false
      | else-field-via-else-field w ↦ absurd (cc (w.if-field.false, ap (λ (f : FieldView). f.is_required) c.field.view_is, required))
    ] in
    record {
      place = place_more (λ (v : FieldValue). v.field.now) c.loop-field.fields.items c.push.new.self.items value (map (λ e. e.1) (map entry_view c.next.new.self)) _ c.in_ok-push.ensures.items before;
      well = well_more (meant_field_at c.args.meant.now) c.loop-field.fields.items c.push.new.self.items value c.in_ok-push.ensures.items c.loop-field.invariant.well (record { member = c.in_ok-member.ensures; present = present });
    }
