use Rattle.facet_solver_agreement.proofs.Fitting.{fitting, keeps}
use Rattle.facet_solver_agreement.proofs.names_decide.Goals as goal

pub returns-clause-fitting : goal.returns-clause-fitting
returns-clause-fitting c = λ shapes root schema checked alike built.
    keeps shapes root schema checked alike built

pub returns-clause-no_other : goal.returns-clause-no_other
returns-clause-no_other c = λ shapes root schema checked alike built.
    fitting shapes root schema checked alike built
