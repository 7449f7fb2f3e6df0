use Rattle.std.proofs.Common.{◌+◌, ap, arith, length, subst, sym}
use Rattle.std.proofs.lemmas.Option.{get_or_from_slice_get}
use Rattle.facet_solver_shape.specs.declared.shape.Field.{Field}
use Rattle.facet_solver.specs.build.Reached.{FieldReached, reach}
use Rattle.facet_solver.proofs.Counted.{no_fall-trans, visited}
use Rattle.facet_solver.proofs.Marks.{up_to_one}
use Rattle.facet_solver.proofs.Reached.{field_kept, reached-mono, reached-trans}
use Rattle.facet_solver.proofs.Roles.{FieldsBelow-at}
use Rattle.facet_solver.proofs.build.nested.reached.mark_fields.Goals as goal

pub mark_field-requires-clause-below : goal.mark_field-requires-clause-below
mark_field-requires-clause-below c =
    let at = FieldsBelow-at _ c.args.fields.now c.loop-index.index c.visited-field.result.now c.loop-index-test.true c.requires.below in
    let is = sym (get_or_from_slice_get c.args.fields.now c.loop-index.index c.visited-field.result.now c.visited-field.result.now c.visited-field.ensures.field) in
    let e = ap (λ (f : Field). f.shape) is in
    let same = (c.loop-index.invariant.0 (length c.args.walked.now) c.requires.below).walked.same_length in
    omega (arith, at, e, same)

pub mark_field-requires-clause-structs : goal.mark_field-requires-clause-structs
mark_field-requires-clause-structs c =
    let more = c.loop-index.invariant.0 (length c.args.walked.now) c.requires.below in
    omega (arith, more.walked.same_length, more.structs.same_length, c.requires.structs)

pub loop-index-preserved : goal.loop-index-preserved
loop-index-preserved c =
    let fs = c.args.fields.now in
    let i = c.loop-index.index in
    let f = c.visited-field.result.now in
    let lt = c.loop-index-test.true in
    let before = c.loop-index.invariant in
    let more = c.mark_field.ensures.more in
    let is = sym (get_or_from_slice_get fs i f f c.visited-field.ensures.field) in
    let e = ap (λ (f : Field). f.shape) is in
    let visits = ap (λ s. s.visits) c.visited-field.ensures.steps in
    let cat = c.args.shapes.now in
    let a = reach c.loop-index.walked c.loop-index.structs in
    let b = reach c.mark_field.new.walked c.mark_field.new.structs in (
      λ limit h. let at = FieldsBelow-at limit fs i f lt h in reached-trans limit (reach c.args.walked.now c.args.structs.now) a b (before.0 limit h) (reached-mono (f.shape + 1) limit a b (omega (arith, at, e)) more),
      up_to_one (FieldReached a cat) (FieldReached b cat) fs i f is lt
          (field_kept a b more.walked.kept more.structs.kept cat) c.mark_field.ensures.reached before.1,
      omega (arith, visits, before.2),
      no_fall-trans _ _ _ before.3 (visited _ _ c.visited-field.ensures.steps),
      λ others among all. c.mark_field.ensures.least others (before.4 others among all) (subst (FieldReached others cat) (sym is) (all i f lt)),
    )
