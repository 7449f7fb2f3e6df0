use Rattle.std.proofs.Common.{◌≡◌, length}
use Rattle.facet_solver_reader.specs.Reading.{AreListCounts, AreSound}
use Rattle.facet_solver_reader.proofs.why.asked.counts_of.Given as goal

-- the lists before this one have been counted
abbrev pub invariant-loop-index : goal.invariant-loop-index
invariant-loop-index l =
    record {
      sound : AreSound l.tables l.nodes l.memo.entries.items;
      counts : AreListCounts l.tables l.nodes l.object l.counts.items;
      so_far : length l.counts.items ≡ l.index-index;
    }
