use Rattle.facet_solver_reader.specs.Known.{named}
use Rattle.facet_solver_reader.specs.Views.{parts_view}
use Rattle.facet_solver_reader.proofs.RestNames.{IsTaker}
use Rattle.facet_solver_reader.proofs.tables.names.name_twice.Given as goal

-- the part before this one that has the name, if one does
abbrev pub invariant-loop-index : goal.invariant-loop-index
invariant-loop-index l = IsTaker l.ordered (named l.name) (parts_view l.parts) l.index l.earlier
