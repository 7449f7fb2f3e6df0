use Rattle.std.proofs.Common.{subst, sym, ◌∙◌}
use Rattle.facet_solver_reader.specs.Choices.{Reading}
use Rattle.facet_solver_reader.specs.Nodes.{value_of}
use Rattle.facet_solver_reader.specs.Parts.{of_shape}
use Rattle.facet_solver_reader.specs.Readers.{ReaderView}
use Rattle.facet_solver_reader.specs.Readings.{ReadsValue}
use Rattle.facet_solver_reader.specs.Tables.{rules_at}
use Rattle.facet_solver_reader.specs.Told.{IsOnlyTold}
use Rattle.facet_solver_reader.specs.Types.{rules_of}
use Rattle.facet_solver_reader.specs.Why.{IsWhyNot}
use Rattle.facet_solver_reader.proofs.reader.Reader.read_nodes.Goals as goal

-- there is one reading, and a reading is told: it is that one
pub returns-in-Ok-clause-ok : goal.returns-in-Ok-clause-ok
returns-in-Ok-clause-ok c =
    let t = c.self.inside.tables in
    let v = value_of c.args.nodes.now 0 in
    let reads = ReadsValue (rules_at t) (of_shape c.self.inside.root) v in
    let read = c.in-Ok.ensures.told in
    let one = read.0 in
    let told = read.1 in
    subst
    (λ (r : ReaderView).
    IsOnlyTold (rules_of r.shapes r.strict) r.shapes (of_shape r.root) v
    c.in-Ok.reading)
    c.self.view_is
    (record {
      told = told;
      only = λ (r : Reading) (h : reads r).
          one.only r h ∙ sym (one.only told.reading told.reads);
    })

pub returns-in-Err-NoneOrSeveral-clause-error : goal.returns-in-Err-NoneOrSeveral-clause-error
returns-in-Err-NoneOrSeveral-clause-error c =
    subst
    (λ (r : ReaderView).
    IsWhyNot (rules_of r.shapes r.strict) (of_shape r.root) (value_of c.args.nodes.now 0)
    c.why_not_one.result)
    c.self.view_is c.why_not_one.ensures
