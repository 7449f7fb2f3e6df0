use Rattle.std.proofs.Common.{◌≡◌, ◌-◌, fold, take}
use Rattle.facet_solver_types.specs.Links.{links_view}
use Rattle.facet_solver_types.specs.Walks.{reach}
use Rattle.facet_solver_types.proofs.catalogue.walks.+reach.Given as goal

abbrev pub decreases-reach : goal.decreases-reach
decreases-reach l = l.over

-- those so far are marked
abbrev pub invariant-loop-next : goal.invariant-loop-next
invariant-loop-next l =
    l.marks
    ≡ fold (reach (links_view l.links) (l.over - 1)) l.initial.marks (take l.next-index l.next-items)
