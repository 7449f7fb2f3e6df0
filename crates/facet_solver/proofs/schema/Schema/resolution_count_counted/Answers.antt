use Rattle.std.proofs.lemmas.Result.{IfOk-weaker}
use Rattle.facet_solver.specs.declared.build.format.Format.TheVariants.{Flat}
use Rattle.facet_solver_shape.specs.Representation.{asked_view}
use Rattle.facet_solver.proofs.Count.{for_each_format}
use Rattle.facet_solver.proofs.schema.Schema.resolution_count_counted.Goals as goal

pub returns-clause-number : goal.returns-clause-number
returns-clause-number c = IfOk-weaker c.count_of_root.result _ _ (λ x e. for_each_format (asked_view c.args.representation) c.args.shapes.now c.args.root Flat x e) c.count_of_root.ensures.number
