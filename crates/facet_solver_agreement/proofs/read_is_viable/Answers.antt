use Rattle.facet_solver_reader.specs.Readings.{ReadsValue}
use Rattle.facet_solver_reader.specs.Types.{rules_of}
use Rattle.facet_solver_agreement.proofs.Kept.{document_kept, read_kept}
use Rattle.facet_solver_agreement.proofs.read_is_viable.Goals as goal

pub returns-clause-of_an_object : goal.returns-clause-of_an_object
returns-clause-of_an_object c = λ shapes root strict schema checked alike built.
    read_kept shapes root schema checked alike built strict (ReadsValue (rules_of shapes strict))

pub returns-clause-of_a_document : goal.returns-clause-of_a_document
returns-clause-of_a_document c = λ shapes root strict schema checked alike built.
    document_kept shapes root schema checked alike built strict
