use Rattle.std.proofs.Common.{length, take}
use Rattle.facet_solver.specs.schema.Indexed.{IsIndexOf, fields_of_each}
use Rattle.facet_solver.proofs.schema.index.Index.new.Given as goal

abbrev pub invariant-loop-i : goal.invariant-loop-i
invariant-loop-i l = IsIndexOf (length l.resolutions) (fields_of_each (take l.i l.resolutions)) l.index
