use Rattle.std.proofs.Common.{◌≡◌, ℕ, Bool, List, Bor, map, sym, ◌∙◌, ap}
use Rattle.facet_solver_shape.specs.Fields.{FieldView}
use Rattle.facet_solver_shape.specs.Keys.{key_of}
use Rattle.facet_solver.specs.solver.FirstOfEach.{is_among}
use Rattle.facet_solver.specs.solver.KeyResult.{scored_view}
use Rattle.facet_solver.specs.Resolutions.{field_at}
use Rattle.facet_solver.proofs.KeyResultFields.{firsts_new, firsts_old, firsts_none}
use Rattle.facet_solver.proofs.KnownShapes.{shapes_more}
use Rattle.facet_solver.proofs.solver.many_fields.add_if_unknown.Goals as goal

-- the shape of a field with a score
abbrev field_shape : Bor FieldView × ℕ → ℕ
field_shape e = e.0.now.shape

-- what the call told of the fields so far
is_told : {fields seen : List (Bor FieldView × ℕ)} {told answer : Bool} (id : ℕ) → seen ≡ fields → told ≡ is_among field_shape seen id → told ≡ answer → is_among field_shape fields id ≡ answer
is_told id same told is = ap (λ es. is_among field_shape es id) (sym same) ∙ sym told ∙ is

pub returns-in_default-clause-fields : goal.returns-in_default-clause-fields
returns-in_default-clause-fields c = λ seen so_far.
    let search = c.args.search.now in
    firsts_none search.schema.now.build.catalogue (field_at (key_of search.key) search.schema.now.resolutions) seen c.args.index c.args.fields.now.items so_far (sym c.in_default.ensures.field)

pub returns-in_ok-push-clause-shapes : goal.returns-in_ok-push-clause-shapes
returns-in_ok-push-clause-shapes c =
    let shape = ap (λ (f : FieldView). f.shape) c.field.view_is in
    let new : Bor FieldView × ℕ = (c.in-Some.field, c.score_at.result) in
    rw c.in_ok-push.ensures.items (shapes_more field_shape c.args.fields.now.items new c.args.shapes.now c.add_shape.new.shapes c.requires (rw shape at c.add_shape.ensures))

pub returns-in_ok-push-clause-fields : goal.returns-in_ok-push-clause-fields
returns-in_ok-push-clause-fields c = λ seen so_far.
    let search = c.args.search.now in
    let shape = ap (λ (f : FieldView). f.shape) c.field.view_is in
    ap (map scored_view) c.in_ok-push.ensures.items
    ∙ firsts_new search.schema.now.build.catalogue (field_at (key_of search.key) search.schema.now.resolutions) seen c.args.index c.args.fields.now.items so_far
    (c.in-Some.field, c.score_at.result) (sym c.in-Some.ensures.field) (is_told c.in-Some.field.now.shape c.deref.ensures.value (rw shape at c.is_known.ensures) c.if-not-is_known.true) (rw shape at c.score_at.ensures)

pub returns-else-not-is_known-clause-fields : goal.returns-else-not-is_known-clause-fields
returns-else-not-is_known-clause-fields c = λ seen so_far.
    let search = c.args.search.now in
    let shape = ap (λ (f : FieldView). f.shape) c.field.view_is in
    firsts_old search.schema.now.build.catalogue (field_at (key_of search.key) search.schema.now.resolutions) seen c.args.index c.args.fields.now.items so_far
    c.in-Some.field.now (sym c.in-Some.ensures.field) (is_told c.in-Some.field.now.shape c.deref.ensures.value (rw shape at c.is_known.ensures) c.if-not-is_known.false)
