use Rattle.std.proofs.Common.{◌≡◌, ℕ, Bool, List, Bor, nat_eq, map, sym, ◌∙◌, ap}
use Rattle.std.specs.List.{list_any}
use Rattle.facet_solver_shape.specs.Fields.{FieldView}
use Rattle.facet_solver_shape.specs.Keys.{key_of}
use Rattle.facet_solver.specs.solver.KeyResult.{scored_view}
use Rattle.facet_solver.specs.Resolutions.{field_at}
use Rattle.facet_solver.proofs.KeyResultFields.{firsts_new, firsts_old, firsts_none}
use Rattle.facet_solver.proofs.solver.distinct_fields.add_if_new.Goals as goal

-- what the call told of the fields so far
is_told : {fields seen : List (Bor FieldView × ℕ)} {told answer : Bool} (id : ℕ) → seen ≡ fields → told ≡ list_any (λ (e : Bor FieldView × ℕ). nat_eq e.0.now.shape id) seen → told ≡ answer → list_any (λ (e : Bor FieldView × ℕ). nat_eq e.0.now.shape id) fields ≡ answer
is_told id same told is = ap (list_any (λ (e : Bor FieldView × ℕ). nat_eq e.0.now.shape id)) (sym same) ∙ sym told ∙ is

pub returns-in_default-clause-fields : goal.returns-in_default-clause-fields
returns-in_default-clause-fields c = λ seen so_far.
    let search = c.args.search.now in
    firsts_none search.schema.now.build.catalogue (field_at (key_of search.key) search.schema.now.resolutions) seen c.args.index c.args.fields.now.items so_far (sym c.in_default.ensures.field)

pub returns-in_ok-push-clause-fields : goal.returns-in_ok-push-clause-fields
returns-in_ok-push-clause-fields c = λ seen so_far.
    let search = c.args.search.now in
    let shape = ap (λ (f : FieldView). f.shape) c.field.view_is in
    ap (map scored_view) c.in_ok-push.ensures.items
    ∙ firsts_new search.schema.now.build.catalogue (field_at (key_of search.key) search.schema.now.resolutions) seen c.args.index c.args.fields.now.items so_far
    (c.in-Some.field, c.score_at.result) (sym c.in-Some.ensures.field) (is_told c.in-Some.field.now.shape c.deref.ensures.value (rw shape at c.is_among.ensures) c.if-not-is_among.true) (rw shape at c.score_at.ensures)

pub returns-else-not-is_among-clause-fields : goal.returns-else-not-is_among-clause-fields
returns-else-not-is_among-clause-fields c = λ seen so_far.
    let search = c.args.search.now in
    let shape = ap (λ (f : FieldView). f.shape) c.field.view_is in
    firsts_old search.schema.now.build.catalogue (field_at (key_of search.key) search.schema.now.resolutions) seen c.args.index c.args.fields.now.items so_far
    c.in-Some.field.now (sym c.in-Some.ensures.field) (is_told c.in-Some.field.now.shape c.deref.ensures.value (rw shape at c.is_among.ensures) c.if-not-is_among.false)
