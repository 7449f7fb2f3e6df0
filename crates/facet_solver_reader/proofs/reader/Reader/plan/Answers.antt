use Rattle.std.proofs.Common.{IfOk, subst}
use Rattle.facet_solver_reader.specs.Parts.{of_shape}
use Rattle.facet_solver_reader.specs.Plans.{IsPlanOf}
use Rattle.facet_solver_reader.specs.Readers.{ReaderView}
use Rattle.facet_solver_reader.specs.Types.{rules_of}
use Rattle.facet_solver_reader.proofs.reader.Reader.plan.Goals as goal

-- the reader is of its tables
pub returns : goal.returns
returns c =
    subst
    (λ (r : ReaderView). IfOk c.new.result
    (IsPlanOf (rules_of r.shapes r.strict) r.shapes (of_shape r.root)))
    c.self.view_is c.new.ensures
