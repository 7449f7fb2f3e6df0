use Rattle.facet_solver_json.proofs.Nesting.{read_document-depth}
use Rattle.facet_solver_json.proofs.document.parse.Goals as goal

pub returns-in-Ok-clause-nests : goal.returns-in-Ok-clause-nests
returns-in-Ok-clause-nests c = read_document-depth _ _ c.in-Ok.ensures.ok
