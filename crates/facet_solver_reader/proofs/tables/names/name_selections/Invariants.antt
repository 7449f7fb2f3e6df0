use Rattle.std.proofs.Common.{◌≡◌, ℕ, ◌<◌, get_or}
use Rattle.facet_solver_reader.specs.declared.part.Part.{Part}
use Rattle.facet_solver_reader.specs.Placing.{PartHasBranchNamesIn}
use Rattle.facet_solver_reader.specs.Views.{parts_view}
use Rattle.facet_solver_reader.proofs.tables.names.name_selections.Given as goal

-- the parts are as they were, and each selection before this one has its names
abbrev pub invariant-loop-part : goal.invariant-loop-part
invariant-loop-part l =
    (parts_view l.part-items ≡ parts_view l.initial.part-items)
    × ((k : ℕ) (d : Part) → k < l.part-index → PartHasBranchNamesIn l.ordered (get_or l.part-items k d))
