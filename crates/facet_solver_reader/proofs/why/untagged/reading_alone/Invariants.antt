use Rattle.std.proofs.Common.{length}
use Rattle.facet_solver_reader.specs.Blaming.{IsWithin}
use Rattle.facet_solver_reader.proofs.why.untagged.reading_alone.Given as goal

-- the one index that is told is one of them
abbrev pub invariant-loop-index : goal.invariant-loop-index
invariant-loop-index l = IsWithin (length l.alone) l.readers
