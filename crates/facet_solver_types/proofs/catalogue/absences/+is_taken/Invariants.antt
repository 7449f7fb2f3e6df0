use Rattle.facet_solver_types.proofs.catalogue.absences.+is_taken.Given as goal

abbrev pub decreases-is_taken : goal.decreases-is_taken
decreases-is_taken l = l.times
