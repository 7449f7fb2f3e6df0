use Rattle.std.proofs.Common.{rules, arith}
use Rattle.std.proofs.lemmas.Grind.{common_steps}
use Rattle.facet_solver_types.proofs.SourcePlaces.{leads_back}
use Rattle.facet_solver_types.proofs.sources.Sources.place.Goals as goal

pub returns-then-place-last-clause-back : goal.returns-then-place-last-clause-back
returns-then-place-last-clause-back c = leads_back _ _ _ _ (first_of (search rules, grind (arith, common_steps)))

pub returns-then-column-le1-clause-back : goal.returns-then-column-le1-clause-back
returns-then-column-le1-clause-back c = leads_back _ _ _ _ (first_of (search rules, grind (arith, common_steps)))

pub returns-clause-back : goal.returns-clause-back
returns-clause-back c = leads_back _ _ _ _ (first_of (search rules, grind (arith, common_steps)))
