use Rattle.std.proofs.Common.{◌∷◌, [], ap, subst, sym, ◌∙◌}
use Rattle.std.specs.Prelude.{IfErr}
use Rattle.std.specs.FinMap as finite
use Rattle.facet_solver_shape.specs.Fields.{FieldView, key_of_field}
use Rattle.facet_solver_shape.specs.Keys.{key_cmp}
use Rattle.facet_solver_shape.specs.Resolved.{IsRefusalOf, Resolved, with_field, with_key_path}
use Rattle.facet_solver.specs.build.Draft.{with_names}
use Rattle.facet_solver.proofs.Draft.{named-field, same_fields}
use Rattle.facet_solver.proofs.NestedTable.{on_ok}
use Rattle.facet_solver.proofs.build.draft.Draft.add_field.Goals as goal

pub returns-clause-fresh : goal.returns-clause-fresh
returns-clause-fresh c =
    let r = c.self.inside.resolution in
    let f = c.args.info in
    on_ok c.add_field.result
    (λ added. ap (λ (v : Resolved). finite.get v.fields (key_of_field f)) (sym c.self.view_is)
    ∙ ap (λ (m : finite.FinMap key_cmp FieldView). finite.get m (key_of_field f)) (same_fields r)
    ∙ added.fresh)
    c.add_field.ensures.ok

pub returns-clause-ok : goal.returns-clause-ok
returns-clause-ok c =
    let r = c.self.inside.resolution in
    let f = c.args.info in
    on_ok c.add_field.result
    (λ added. ap with_names added.after
    ∙ named-field r f added.fresh
    ∙ ap (λ (v : Resolved). with_key_path (with_field v f) (f.name ∷ [])) c.self.view_is)
    c.add_field.ensures.ok

pub returns-clause-refused : goal.returns-clause-refused
returns-clause-refused c =
    subst (λ (m : finite.FinMap key_cmp FieldView). IfErr c.add_field.result (IsRefusalOf m c.args.info))
    (sym (same_fields c.self.inside.resolution) ∙ ap (λ (v : Resolved). v.fields) c.self.view_is)
    c.add_field.ensures.refused
