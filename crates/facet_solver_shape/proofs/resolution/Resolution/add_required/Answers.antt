use Rattle.std.proofs.Common.{rules, ◌≡◌, ap, None}
use Rattle.std.specs.FinMap.{get, insert}
use Rattle.facet_solver_shape.specs.Fields.{FieldView, key_of_field}
use Rattle.facet_solver_shape.proofs.Resolved.{names_put, either_way}
use Rattle.facet_solver_shape.proofs.resolution.Resolution.add_required.Goals as goal

pub invariant_of-self-else-is_err : goal.invariant_of-self-else-is_err
invariant_of-self-else-is_err c =
    let f = c.args.info in
    let fields = c.self.inside.fields in
    let fresh : get fields (key_of_field f) ≡ None = search rules in
    let made : c.insert_new-added.new.self ≡ insert fields (key_of_field f) f = search rules in
    rw (c.in_ok-is_new.ensures.ok, ap (λ (f : FieldView). f.name) c.info.view_is, made) (names_put fields f fresh c.self.inside.required c.requires c.self.invariant)

pub invariant_of-self-else-is_new : goal.invariant_of-self-else-is_new
invariant_of-self-else-is_new c =
    let f = c.args.info in
    let fields = c.self.inside.fields in
    let names = c.self.inside.required in
    let put = c.insert_new-added.ensures in
    let kept : c.insert.new.self ≡ names = search rules in
    either_way c.insert_new-added.result put.fresh put.ok put.err
    (λ fresh made. rw (c.in_ok-is_new.ensures.ok, ap (λ (f : FieldView). f.name) c.info.view_is, made) (names_put fields f fresh names c.requires c.self.invariant))
    (λ same. rw (kept, same) c.self.invariant)
