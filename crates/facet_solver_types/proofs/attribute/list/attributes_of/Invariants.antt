use Rattle.std.proofs.Common.{◌≡◌, drop}
use Rattle.facet_solver_types.specs.AttributeLists.{attributes_of, entered}
use Rattle.facet_solver_types.specs.Attributes.{attribute_view}
use Rattle.facet_solver_types.specs.Entries.{entries_view}
use Rattle.facet_solver_types.specs.Gatherings.{gathered_after, gathering_view}
use Rattle.facet_solver_types.proofs.attribute.list.attributes_of.Given as goal

-- the attributes of all entries are those of the rest behind those so far
abbrev pub invariant-loop-entry : goal.invariant-loop-entry
invariant-loop-entry l =
    attributes_of l.subject (entries_view l.entries)
    ≡ gathered_after (entered l.subject) (gathering_view attribute_view l.found)
    (entries_view (drop l.entry-index l.entries))
