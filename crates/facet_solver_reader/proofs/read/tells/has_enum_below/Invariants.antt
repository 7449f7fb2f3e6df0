use Rattle.std.proofs.Common.{◌<◌}
use Rattle.facet_solver_reader.specs.Tells.{HasEnumBelow}
use Rattle.facet_solver_reader.proofs.read.tells.has_enum_below.Given as goal

-- none of the lists before this one tells of an enum
abbrev pub invariant-loop-index : goal.invariant-loop-index
invariant-loop-index l =
    (b : HasEnumBelow l.tables l.list) → b.position < l.index-index → ⊥
