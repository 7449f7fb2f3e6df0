-- What a report says of the number of viable candidates.
use Rattle.std.proofs.Common.{◌≡◌, [], Some, refl}
use Rattle.facet_solver.specs.set.IndexSet.{HowMany, no_index, one_index, several_indices, how_many}
use Rattle.facet_solver.specs.error.ErrorView.{NoMatchView, no_match}
use Rattle.facet_solver.specs.solver.State.{State}
use Rattle.facet_solver.specs.solver.Report.{report_by, report_of, viable}
use Rattle.facet_solver.proofs.IndexSet.{none_of_none}

-- that nothing matches is reported where none is viable
pub none_viable : (s : State) (v : NoMatchView) → Some (no_match v) ≡ report_of s → viable s ≡ []
none_viable s v is = none_of_none (viable s) (go (how_many (viable s)) is)
  where
    go : (h : HowMany) → Some (no_match v) ≡ report_by h s → h ≡ no_index
    go no_index e = refl
    go (one_index i) e = cc
    go several_indices e = cc
