use Rattle.std.proofs.Common.{◌≡◌, fold, length, take}
use Rattle.facet_solver_types.specs.Links.{links_view}
use Rattle.facet_solver_types.specs.Walks.{reach}
use Rattle.facet_solver_types.proofs.catalogue.walks.reached.Given as goal

-- those so far are marked
abbrev pub invariant-loop-next : goal.invariant-loop-next
invariant-loop-next l =
    l.marks.items
    ≡ fold (reach (links_view l.links) (length l.links)) l.initial.marks.items
    (take l.next-index l.next-items)
