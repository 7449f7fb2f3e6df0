use Rattle.std.proofs.Common.{take}
use Rattle.std.specs.List.{All}
use Rattle.facet_solver_shape.specs.Names.{names_of}
use Rattle.facet_solver_reader.specs.declared.tables.order.Ordered.{Ordered}
use Rattle.facet_solver_reader.specs.Placing.{AreNamesOf, PartHasBranchNamesIn}
use Rattle.facet_solver_reader.specs.Views.{parts_view}
use Rattle.facet_solver_reader.proofs.tables.names.names_of_each.Given as goal

-- the names of the parts before this one
abbrev pub invariant-loop-part : goal.invariant-loop-part
invariant-loop-part l =
    (o : Ordered) → All (PartHasBranchNamesIn o) l.parts
    → AreNamesOf o (parts_view (take l.part-index l.parts)) (names_of l.names.items)
