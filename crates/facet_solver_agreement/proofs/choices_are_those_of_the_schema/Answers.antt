use Rattle.facet_solver_agreement.proofs.Root.{chosen_as, walked_as}
use Rattle.facet_solver_agreement.proofs.choices_are_those_of_the_schema.Goals as goal

pub returns-clause-of_the_reader : goal.returns-clause-of_the_reader
returns-clause-of_the_reader c = λ shapes root format checked alike.
    walked_as shapes root format checked alike

pub returns-clause-of_the_schema : goal.returns-clause-of_the_schema
returns-clause-of_the_schema c = λ shapes root format checked alike.
    chosen_as shapes root format checked alike
