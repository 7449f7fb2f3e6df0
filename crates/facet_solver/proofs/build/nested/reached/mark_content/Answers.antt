use Rattle.std.proofs.Common.{◌≡◌, ◌∷◌, ◌<◌, ◌+◌, [], ℕ, List, Some, arith, length, set, slice_get, subst, sym, true}
use Rattle.facet_solver_shape.specs.Catalogues.{FieldsBelow}
use Rattle.facet_solver_shape.specs.declared.shape.Field.{Field}
use Rattle.facet_solver.specs.build.Build.{Catalogue}
use Rattle.facet_solver.specs.build.Content.{IsNewtypeOf}
use Rattle.facet_solver.specs.build.NestedTable.{IsMarked}
use Rattle.facet_solver.specs.build.Reached.{ContentReached, reach}
use Rattle.facet_solver.proofs.Marks.{set_same}
use Rattle.facet_solver.proofs.NestedTable.{one_item}
use Rattle.facet_solver.proofs.Reached.{newtype_marked, own_reached, reached-mono, reached-set}
use Rattle.facet_solver.proofs.build.nested.reached.mark_content.Goals as goal

-- the only field, and the struct that it stands for
module _ (fs : List Field) (f : Field) (one : length fs ≡ 1) (at : slice_get fs 0 ≡ Some f) where
  below : (limit : ℕ) → FieldsBelow limit fs → f.shape < limit
  below limit h = let b : FieldsBelow limit (f ∷ []) = subst (FieldsBelow limit) (one_item fs f one at) h in b.0

  newtype : (cat : Catalogue) (id : ℕ) → IsNewtypeOf cat (f ∷ []) id → IsNewtypeOf cat fs id
  newtype cat id h = subst (λ (gs : List Field). IsNewtypeOf cat gs id) (sym (one_item fs f one at)) h

pub mark_field-requires-clause-below : goal.mark_field-requires-clause-below
mark_field-requires-clause-below c =
    below c.args.fields.now c.visited-field.result.now c.if-fields-ne1.false c.visited-field.ensures.field (length c.args.walked.now) c.requires.below

pub bounds-walked-index : goal.bounds-walked-index
bounds-walked-index c =
    let is = newtype c.args.fields.now c.visited-field.result.now c.if-fields-ne1.false c.visited-field.ensures.field c.args.shapes.now c.in-Some.id c.in-Some.ensures in
    let within = is.earlier (length c.args.walked.now) c.requires.below in
    omega (arith, within, c.index.ensures)

pub returns-in-Some-clause-more : goal.returns-in-Some-clause-more
returns-in-Some-clause-more c = λ limit h.
    let is = newtype c.args.fields.now c.visited-field.result.now c.if-fields-ne1.false c.visited-field.ensures.field c.args.shapes.now c.in-Some.id c.in-Some.ensures in
    let within = is.earlier (length c.args.walked.now) c.requires.below in
    let low = is.earlier limit h in
    reached-set limit c.index.result c.args.walked.now c.args.structs.now (omega (arith, low, c.index.ensures)) (omega (arith, within, c.index.ensures))

pub returns-in-Some-clause-reached : goal.returns-in-Some-clause-reached
returns-in-Some-clause-reached c =
    let is = newtype c.args.fields.now c.visited-field.result.now c.if-fields-ne1.false c.visited-field.ensures.field c.args.shapes.now c.in-Some.id c.in-Some.ensures in
    let within = is.earlier (length c.args.walked.now) c.requires.below in
    let walked = set c.args.walked.now c.index.result true in
    newtype_marked (reach walked c.args.structs.now) c.args.shapes.now c.args.fields.now c.in-Some.id is
    (subst (IsMarked walked) c.index.ensures (set_same c.args.walked.now c.index.result (omega (arith, within, c.index.ensures))))

pub returns-in-None-clause-more : goal.returns-in-None-clause-more
returns-in-None-clause-more c = λ limit h.
    let low = below c.args.fields.now c.visited-field.result.now c.if-fields-ne1.false c.visited-field.ensures.field limit h in
    reached-mono (c.visited-field.result.now.shape + 1) limit (reach c.args.walked.now c.args.structs.now) (reach c.mark_field.new.walked c.mark_field.new.structs) (omega (arith, low)) c.mark_field.ensures.more

pub returns-in-None-clause-least : goal.returns-in-None-clause-least
returns-in-None-clause-least c = λ others among h.
    let f = c.visited-field.result.now in
    let is = one_item c.args.fields.now f c.if-fields-ne1.false c.visited-field.ensures.field in
    let own = own_reached others c.args.shapes.now (f ∷ []) c.in-None.ensures (subst (ContentReached others c.args.shapes.now) is h) in
    c.mark_field.ensures.least others among (own 0 f (omega arith))
