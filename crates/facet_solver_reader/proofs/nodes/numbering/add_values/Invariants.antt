use Rattle.facet_solver_reader.specs.Documents.{view}
use Rattle.facet_solver_reader.proofs.Adding.{AreAddedUpto}
use Rattle.facet_solver_reader.proofs.nodes.numbering.add_values.Given as goal

-- the values so far are added
abbrev pub invariant-loop-document : goal.invariant-loop-document
invariant-loop-document l = AreAddedUpto (λ m. view m.1) l.parent l.members l.initial.nodes.items l.nodes.items l.document-index
