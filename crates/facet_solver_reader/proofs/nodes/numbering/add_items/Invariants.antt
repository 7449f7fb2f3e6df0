use Rattle.facet_solver_reader.specs.Documents.{view}
use Rattle.facet_solver_reader.proofs.Adding.{AreAddedUpto}
use Rattle.facet_solver_reader.proofs.nodes.numbering.add_items.Given as goal

-- the items so far are added
abbrev pub invariant-loop-document : goal.invariant-loop-document
invariant-loop-document l = AreAddedUpto view l.parent l.items l.initial.nodes.items l.nodes.items l.document-index
