use Rattle.std.proofs.Common.{ℕ, Bool, nat_eq, ap, sym, ◌∙◌}
use Rattle.std.specs.FinMap.{values}
use Rattle.std.specs.List.{list_any}
use Rattle.facet_solver_shape.specs.Fields.{FieldView}
use Rattle.facet_solver_shape.proofs.Lists.{list_any-map}
use Rattle.facet_solver.specs.solver.FirstOfEach.{is_among}
use Rattle.facet_solver.proofs.State.{shape_among}
use Rattle.facet_solver.proofs.solver.conditions.shape_among.has_shape_among.Goals as goal

pub returns : goal.returns
returns g c =
    let items = c.args.items.now in
    let mine = c.args.resolution.now.fields in
    c.have_shape_among.ensures
    ∙ shape_among c.fields.result.now.entries mine (is_among g.T.Shaped.shape_of items) c.fields.ensures.in_order
    ∙ ap (λ (test : FieldView → Bool). list_any test (values mine)) (λ j f. sym (list_any-map (λ (id : ℕ). nat_eq id f.shape) g.T.Shaped.shape_of items) j)
