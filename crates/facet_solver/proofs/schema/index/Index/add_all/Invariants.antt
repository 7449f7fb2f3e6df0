use Rattle.std.proofs.Common.{length, take}
use Rattle.facet_solver.specs.schema.Indexed.{fields_of_each}
use Rattle.facet_solver.proofs.UnderWay.{IsAddedInPart, fields_at}
use Rattle.facet_solver.proofs.schema.index.Index.add_all.Given as goal

abbrev pub invariant-loop-key : goal.invariant-loop-key
invariant-loop-key l = IsAddedInPart (length l.resolutions) (fields_of_each (take l.index l.resolutions)) (fields_at l.resolutions l.index) l.key-iterator l.self
