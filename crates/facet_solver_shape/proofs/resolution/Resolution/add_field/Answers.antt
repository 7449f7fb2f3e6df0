use Rattle.std.proofs.Common.{◌∙◌, ap, sym}
use Rattle.facet_solver_shape.specs.Fields.{FieldView}
use Rattle.facet_solver_shape.proofs.Resolved.{names_kept, either_way}
use Rattle.facet_solver_shape.proofs.resolution.Resolution.add_field.Goals as goal

pub invariant_of-self : goal.invariant_of-self
invariant_of-self c =
    let fields = c.self.inside.fields in
    let names = c.self.inside.required in
    let optional = sym (ap (λ (f : FieldView). f.is_required) c.info.view_is) ∙ c.if-info.false in
    let put = c.insert_new.ensures in
    either_way c.insert_new.result put.fresh put.ok put.err
    (λ fresh made. rw made (names_kept fields c.args.info fresh names optional c.self.invariant))
    (λ same. rw same c.self.invariant)
