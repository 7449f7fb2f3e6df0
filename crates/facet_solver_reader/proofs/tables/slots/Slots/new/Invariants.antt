use Rattle.facet_solver_reader.proofs.Slotted.{AreFreeUpto}
use Rattle.facet_solver_reader.proofs.tables.slots.Slots.new.Given as goal

-- the shapes so far have their slots
abbrev pub invariant-loop-index : goal.invariant-loop-index
invariant-loop-index l = AreFreeUpto l.shapes l.slots.items l.index
