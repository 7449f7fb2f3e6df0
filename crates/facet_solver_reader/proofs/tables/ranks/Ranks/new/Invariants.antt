use Rattle.std.proofs.Common.{◌-◌, length}
use Rattle.facet_solver_reader.specs.Marks.{marked_of}
use Rattle.facet_solver_reader.proofs.RankRounds.{AreRankedSoFar}
use Rattle.facet_solver_reader.proofs.tables.ranks.Ranks.new.Given as goal

-- the shapes that are ranked have ranks below the steps so far
abbrev pub invariant-loop-is_ranked : goal.invariant-loop-is_ranked
invariant-loop-is_ranked l = AreRankedSoFar l.types l.ends.items l.is_ranked.items l.steps

-- how many are not ranked
abbrev pub decreases-loop-is_ranked : goal.decreases-loop-is_ranked
decreases-loop-is_ranked l = length l.ends.items - marked_of l.is_ranked.items
