use Rattle.std.proofs.Common.{subst}
use Rattle.facet_solver_reader.specs.Counted.{Counted}
use Rattle.facet_solver_reader.specs.Documents.{Tree, view}
use Rattle.facet_solver_reader.specs.Parts.{of_shape}
use Rattle.facet_solver_reader.specs.Readers.{ReaderView}
use Rattle.facet_solver_reader.specs.Readings.{ReadsValue}
use Rattle.facet_solver_reader.specs.Tables.{rules_at}
use Rattle.facet_solver_reader.specs.Types.{rules_of}
use Rattle.facet_solver_reader.proofs.reader.Reader.count.Goals as goal

-- the first of the numbered values is the document
pub returns-clause-count : goal.returns-clause-count
returns-clause-count c =
    subst
    (λ (r : ReaderView). Counted
    (ReadsValue (rules_of r.shapes r.strict) (of_shape r.root) (view c.args.document.now))
    c.in_ok-count_target.field-0)
    c.self.view_is
    (subst
    (λ (v : Tree). Counted
    (ReadsValue (rules_at c.self.inside.tables) (of_shape c.self.inside.root) v)
    c.in_ok-count_target.field-0)
    c.in_ok-nodes.ensures.root c.in_ok-count_target.ensures.count)
