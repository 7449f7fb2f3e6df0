use Rattle.facet_solver_shape.proofs.Catalogues.{names_earlier}
use Rattle.std.proofs.lemmas.Result.{IfOk-weaker}
use Rattle.facet_solver.proofs.build.count.Counts.new.Goals as goal

pub before-requires-clause-checked : goal.before-requires-clause-checked
before-requires-clause-checked c = names_earlier c.args.build.shapes.now c.len.ensures.checked

pub returns-clause-checked : goal.returns-clause-checked
returns-clause-checked c = IfOk-weaker c.before-2.result _ _ (λ x e. names_earlier c.args.build.shapes.now c.len.ensures.checked) c.before-2.ensures.all
