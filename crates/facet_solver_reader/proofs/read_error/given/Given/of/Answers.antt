use Rattle.std.proofs.Common.{ap, length, sym, ◌∙◌}
use Rattle.std.proofs.lemmas.List.{length-map}
use Rattle.facet_solver_reader.specs.Documents.{items_view, members_view, view}
use Rattle.facet_solver_reader.proofs.Seen.{member_seen, seen_items, seen_members}
use Rattle.facet_solver_reader.proofs.Views.{view-List, view-Object}
use Rattle.facet_solver_reader.proofs.read_error.given.Given.of.Goals as goal

pub returns-in-List : goal.returns-in-List
returns-in-List c =
    let values = c.in-List.values in (
      items_view values.items,
      ap view c.in-List.is ∙ view-List values,
      ap length (seen_items values.items)
          ∙ (length-map values.items view ∙ (sym values.ok.0 ∙ sym c.len.ensures)),
    )

pub returns-in-Object : goal.returns-in-Object
returns-in-Object c =
    let inner = c.in-Object.members in (
      members_view inner.items,
      ap view c.in-Object.is ∙ view-Object inner,
      ap length (seen_members inner.items)
          ∙ (length-map inner.items member_seen ∙ (sym inner.ok.0 ∙ sym c.len-in-Object.ensures)),
    )
