use Rattle.std.proofs.Common.{map}
use Rattle.facet_solver_reader.specs.Nodes.{value_of}
use Rattle.facet_solver_reader.specs.Readings.{ReadsValue}
use Rattle.facet_solver_reader.specs.Tables.{rules_at}
use Rattle.facet_solver_reader.specs.Values.{ReadsNamedVariant}
use Rattle.facet_solver_reader.specs.Views.{named_view}
use Rattle.facet_solver_reader.proofs.ReadOnce.{not_one_of}
use Rattle.facet_solver_reader.proofs.read.variant.counted_index.Goals as goal

pub returns-in_default : goal.returns-in_default
returns-in_default c =
    record {
      sound = c.in_ok-count_contents.ensures.sound;
      chosen = not_one_of (ReadsNamedVariant (ReadsValue (rules_at c.args.tables.now))
          (map named_view c.args.variants.now) (value_of c.args.nodes.now c.args.node))
          c.in_ok-count_contents.field-0 c.in_default.not-One c.in_ok-count_contents.ensures.count;
    }
