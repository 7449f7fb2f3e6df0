use Rattle.std.proofs.Common.{subst}
use Rattle.facet_solver_shape.specs.Catalogues.{Catalogue}
use Rattle.facet_solver_reader.specs.Slots.{AreFree}
use Rattle.facet_solver_reader.proofs.LeftLists.{none_placed}
use Rattle.facet_solver_reader.proofs.tables.order.Ordered.new.Goals as goal

pub returns : goal.returns
returns c = λ every marks.
    none_placed c.args.types.now every marks (record { lists = c.in_ok-lists.lists; slots = c.in_ok-slots.slots }) c.in_ok-lists.ensures.items
    (subst (λ (s : Catalogue). AreFree s c.in_ok-slots.slots) c.shapes.ensures c.in_ok-slots.ensures)
