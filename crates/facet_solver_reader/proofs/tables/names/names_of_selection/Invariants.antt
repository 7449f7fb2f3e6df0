use Rattle.std.proofs.Common.{take}
use Rattle.facet_solver_shape.specs.Names.{names_of}
use Rattle.facet_solver_reader.proofs.PartNames.{AreNamesOfLists}
use Rattle.facet_solver_reader.proofs.tables.names.names_of_selection.Given as goal

-- the names of the branches before this one
abbrev pub invariant-loop-branch : goal.invariant-loop-branch
invariant-loop-branch l =
    AreNamesOfLists l.ordered (take l.branch-index l.selection.branches.items) (names_of l.names.items)
