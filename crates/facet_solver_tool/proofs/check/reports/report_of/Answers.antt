use Rattle.std.proofs.Common.{◌≡◌, [], subst}
use Rattle.facet_solver_reader.specs.Parts.{of_shape}
use Rattle.facet_solver_reader.specs.Types.{rules_of}
use Rattle.facet_solver_checker.specs.Certain.{IsUnambiguous}
use Rattle.facet_solver_witnesses.specs.Shown.{AreShown}
use Rattle.facet_solver_tool.proofs.check.reports.report_of.Goals as goal

pub returns-in-Ok-clause-made : goal.returns-in-Ok-clause-made
returns-in-Ok-clause-made c =
    let report = c.in-Ok.report in
    record {
      all = c.in-Ok.ensures.all;
      covered = c.in-Ok.ensures.covered;
      shown = subst (λ r. AreShown r report.ambiguities.items) c.in_ok-reader.ensures.made c.in-Ok.ensures.shown;
      unambiguous = subst
          (λ r. report.places.items ≡ [] → IsUnambiguous (rules_of r.shapes r.strict) (of_shape r.root))
          c.in_ok-reader.ensures.made c.in-Ok.ensures.unambiguous;
    }
