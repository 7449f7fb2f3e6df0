use Rattle.std.proofs.Common.{map, sym, ◌∙◌, ap}
use Rattle.std.proofs.Output.{displays_on_ok_of_eq}
use Rattle.facet_solver.specs.error.ErrorTexts.{missing_names}
use Rattle.facet_solver.specs.error.QuotedNames.{list_output}
use Rattle.facet_solver.specs.error.ErrorView.{missing_view}
use Rattle.facet_solver.proofs.QuotedNames.{first_and_later}
use Rattle.facet_solver.proofs.error.failure.MissingNamesDisplay.fmt.Goals as goal

-- the first name, and the others with commas
pub returns-in-Some-clause-writes : goal.returns-in-Some-clause-writes
returns-in-Some-clause-writes g c =
    displays_on_ok_of_eq _ _ _ _ _ _
    (first_and_later (missing_view c.in-Some.first.now).name (missing_names (map missing_view c.in-Some.rest.now))
    ∙ ap (λ ms. list_output (missing_names (map missing_view ms))) (sym c.in-Some.ensures.cases.0))
    c.write-in-Some.ensures.writes
