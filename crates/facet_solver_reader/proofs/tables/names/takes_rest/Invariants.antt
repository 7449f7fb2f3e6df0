use Rattle.facet_solver_reader.specs.Known.{rest}
use Rattle.facet_solver_reader.specs.Views.{parts_view}
use Rattle.facet_solver_reader.proofs.RestNames.{IsTaker}
use Rattle.facet_solver_reader.proofs.tables.names.takes_rest.Given as goal

-- the part before this one that takes the rest, if one does
abbrev pub invariant-loop-index : goal.invariant-loop-index
invariant-loop-index l = IsTaker l.ordered rest (parts_view l.parts) l.index l.taker
