use Rattle.std.specs.Prelude.{IfSome}
use Rattle.facet_solver_reader.specs.Documents.{Tree}
use Rattle.facet_solver_reader.specs.Reading.{AreSound}
use Rattle.facet_solver_reader.specs.Blaming.{IsNext}
use Rattle.facet_solver_reader.specs.declared.count.Count.TheVariants.{Several as TwoCount}
use Rattle.facet_solver_reader.proofs.why.several.several_in_list.Given as goal

-- the counts that are known are right, and what was found is read in several ways
abbrev pub invariant-loop-part : goal.invariant-loop-part
invariant-loop-part l =
    record {
      sound : AreSound l.tables l.nodes l.memo.entries.items;
      found : (v : Tree) → IfSome l.first (IsNext l.tables l.nodes TwoCount v);
    }
