use Rattle.std.proofs.Common.{map}
use Rattle.facet_solver_reader.specs.declared.count.Count.TheVariants.{None as NoCount}
use Rattle.facet_solver_reader.specs.Counted.{Counted}
use Rattle.facet_solver_reader.specs.Nodes.{value_of}
use Rattle.facet_solver_reader.specs.Reading.{AreSound}
use Rattle.facet_solver_reader.specs.Readings.{ReadsValue}
use Rattle.facet_solver_reader.specs.Tables.{rules_at}
use Rattle.facet_solver_reader.specs.Views.{named_view}
use Rattle.facet_solver_reader.proofs.Forms.{OfVariantBelow}
use Rattle.facet_solver_reader.proofs.NamedVariants.{AsNamed}
use Rattle.facet_solver_reader.proofs.read.variant.content_index.Given as goal

-- the member is read as no variant before this one
abbrev pub invariant-loop-k : goal.invariant-loop-k
invariant-loop-k l = record {
  sound : AreSound l.tables l.nodes l.memo.entries.items;
  none : Counted (OfVariantBelow (AsNamed (ReadsValue (rules_at l.tables))
      (map named_view l.variants)
      (record { name = l.name; value = value_of l.nodes l.content })) l.k) NoCount;
}
