use Rattle.facet_solver_reader.proofs.RankRounds.{AreNextBefore}
use Rattle.facet_solver_reader.proofs.tables.ranks.rank_more.Given as goal

-- the marks of the shapes before this one
abbrev pub invariant-loop-index : goal.invariant-loop-index
invariant-loop-index l = AreNextBefore l.types l.ends.items l.is_ranked l.next.items l.index
