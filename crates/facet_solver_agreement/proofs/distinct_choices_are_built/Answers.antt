use Rattle.facet_solver_agreement.proofs.Repeated.{none_twice}
use Rattle.facet_solver_agreement.proofs.distinct_choices_are_built.Goals as goal

pub returns : goal.returns
returns c = λ shapes root format checked alike. none_twice shapes root format checked alike
