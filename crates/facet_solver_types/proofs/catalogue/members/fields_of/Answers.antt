use Rattle.std.proofs.Common.{◌∙◌, ◌++◌, ◌∷◌, [], length, map, sym, ap, rules, length-append, append-nil}
use Rattle.std.specs.String.{string_bytes}
use Rattle.std.proofs.lemmas.Slice.Zip.{zip_end, zip_turn}
use Rattle.facet_solver_types.specs.MadeShapes.{field_of}
use Rattle.facet_solver_types.specs.PlacedNames.{names_in}
use Rattle.facet_solver_types.specs.ShapeViews as shapes
use Rattle.facet_solver_types.specs.Understood.{field_view}
use Rattle.facet_solver_types.proofs.ZippedLists.{paired_over, paired_step}
use Rattle.facet_solver_types.proofs.catalogue.members.fields_of.Goals as goal

pub loop-field-preserved : goal.loop-field-preserved
loop-field-preserved c =
    let l = c.loop-field in
    let fs = c.args.fields.now in
    let ts = c.args.types.now in
    let rule = field_of (names_in c.args.ids.now) in
    let turn = zip_turn fs ts l.yielded c.into_iter-field-iterator.result l.field-iterator
    c.next.new.self c.next.result (search rules) (search rules) l.yielded_by
    (c.in-Some.field, c.in-Some.id) c.in-Some.is c.next.ensures.steps in
    let a = c.in-Some.field.now in
    let b = c.in-Some.id.now in
    l.invariant
    ∙ paired_step field_view string_bytes rule fs ts shapes.field_view l.made.items c.push.new.self.items
    c.in_ok-field_of.field-0 (length l.yielded) (length (l.yielded ++ (c.in-Some.field, c.in-Some.id) ∷ [])) a b
    turn.0 turn.1 (turn.2 a) (turn.3 b)
    (length-append l.yielded ((c.in-Some.field, c.in-Some.id) ∷ []))
    (c.in_ok-field_of.ensures ∙ ap (rule (field_view a)) c.as_str.ensures.value)
    c.in_ok-push.ensures.items

pub returns : goal.returns
returns c =
    let l = c.loop-field in
    let fs = c.args.fields.now in
    let ts = c.args.types.now in
    let rule = field_of (names_in c.args.ids.now) in
    let made = map shapes.field_view l.made.items in
    let end = zip_end fs ts l.yielded c.into_iter-field-iterator.result l.field-iterator
    c.next.new.self c.next.result (search rules) (search rules) l.yielded_by c.in-None.is
    c.next.ensures.steps in
    sym (l.invariant
    ∙ ap (λ left. made ++ left) (paired_over field_view string_bytes rule fs ts (length l.yielded) end)
    ∙ append-nil made)
