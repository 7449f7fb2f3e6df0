use Rattle.std.proofs.Common.{◌≡◌, take}
use Rattle.std.specs.List.{flat_map}
use Rattle.facet_solver_witnesses.specs.WayNames.{names_at}
use Rattle.facet_solver_witnesses.proofs.names.names_of.Given as goal

-- those of the lists before this one
abbrev pub invariant-loop-list : goal.invariant-loop-list
invariant-loop-list l = l.names.items ≡ flat_map (names_at l.plan) (take l.list-index l.lists)
