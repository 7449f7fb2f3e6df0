use Rattle.facet_solver_shape.proofs.Catalogues.{names_earlier}
use Rattle.facet_solver_shape.proofs.EffectiveShapes.{effective-step}
use Rattle.facet_solver.proofs.laws.effective_shapes_follow_inner_and_proxy.Goals as goal

pub returns : goal.returns
returns c = λ cat checked. effective-step cat (names_earlier cat checked)
