-- The test of each alternative is that of the alternative as it is seen.
use Rattle.std.proofs.Common.{◌∙◌, ap, not}
use Rattle.facet_solver_reader.specs.Documents.{view}
use Rattle.facet_solver_reader.specs.Values.{is_whole_of}
use Rattle.facet_solver_reader.specs.Views.{alternative_view}
use Rattle.facet_solver_reader.proofs.InMemory.{any_seen}
use Rattle.facet_solver_reader.proofs.count.untagged.reads_content.Goals as goal

pub returns-in-Float : goal.returns-in-Float
returns-in-Float c =
    rw c.in-Float.is
    (ap not (c.is_whole_of_any.ensures
    ∙ any_seen (is_whole_of (view c.args.value.now)) alternative_view c.args.others.now))
