use Rattle.std.proofs.Common.{map}
use Rattle.facet_solver_reader.specs.declared.count.Count.TheVariants.{None as NoCount}
use Rattle.facet_solver_reader.specs.Counted.{Counted}
use Rattle.facet_solver_reader.specs.Nodes.{value_of}
use Rattle.facet_solver_reader.specs.Reading.{AreSound}
use Rattle.facet_solver_reader.specs.Readings.{ReadsValue}
use Rattle.facet_solver_reader.specs.Tables.{rules_at}
use Rattle.facet_solver_reader.specs.Views.{alternative_view}
use Rattle.facet_solver_reader.proofs.UntaggedVariants.{ReadsAloneBelow}
use Rattle.facet_solver_reader.proofs.read.untagged.direct_index.Given as goal

-- no alternative before this one reads the value by itself
abbrev pub invariant-loop-k : goal.invariant-loop-k
invariant-loop-k l = record {
  sound : AreSound l.tables l.nodes l.memo.entries.items;
  none : Counted (ReadsAloneBelow (ReadsValue (rules_at l.tables))
      (map alternative_view l.alone) (value_of l.nodes l.node) l.k) NoCount;
}
