use Rattle.std.proofs.Common.{length, subst}
use Rattle.std.specs.Option.{option_copied}
use Rattle.facet_solver_shape.specs.Keys.{key_of}
use Rattle.facet_solver.specs.schema.Indexed.{IsEntryIfAny}
use Rattle.facet_solver.specs.Resolutions.{field_at}
use Rattle.facet_solver.specs.schema.Schema.{SchemaView}
use Rattle.facet_solver.proofs.schema.Schema.look_up.Goals as goal

pub returns : goal.returns
returns c =
    let s = c.self.inside in
    let rs = s.resolutions.items in
    let key = key_of c.args.key in
    let found : IsEntryIfAny (length rs) (field_at key rs) (option_copied c.look_up.result) =
    c.look_up.ensures rs c.self.invariant.1 c.self.invariant.2 in
    let Is : SchemaView → Type 0 = λ v. IsEntryIfAny (length v.resolutions) (field_at key v.resolutions) (option_copied c.look_up.result) in
    subst Is c.self.view_is found
