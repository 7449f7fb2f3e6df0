use Rattle.std.proofs.Common.{List, length, rules, subst}
use Rattle.facet_solver_shape.specs.Resolved.{Resolved}
use Rattle.facet_solver.specs.build.Build.{build_of}
use Rattle.facet_solver.specs.schema.Indexed.{IsIndexOf, fields_of_each}
use Rattle.facet_solver.specs.schema.Schema.{IsBuilt, SchemaView, schema_view}
use Rattle.facet_solver.proofs.FieldCategories.{built_of_format}
use Rattle.facet_solver.proofs.schema.Schema.indexed.Goals as goal

pub invariant_of-result : goal.invariant_of-result
invariant_of-result c =
    let build = c.args.build in
    let rs = c.args.made.items in
    let view : SchemaView = schema_view build.shapes.now c.args.root build.representation build.format rs in
    let built : IsBuilt (build_of build) c.args.root view = search rules in
    let Is : List Resolved → Type 0 = λ rs. IsIndexOf (length rs) (fields_of_each rs) c.in_ok-index.index in
    (built, built_of_format (build_of build) c.args.root view built, subst Is c.deref.ensures.value c.in_ok-index.ensures)
