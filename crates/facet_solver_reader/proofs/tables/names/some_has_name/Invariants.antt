use Rattle.std.proofs.Common.{◌≡◌, false, map, take}
use Rattle.std.specs.List.{list_any}
use Rattle.facet_solver_reader.specs.Known.{named}
use Rattle.facet_solver_reader.specs.Placing.{list_knows}
use Rattle.facet_solver_reader.specs.Views.{list_view}
use Rattle.facet_solver_reader.proofs.tables.names.some_has_name.Given as goal

-- none of the lists before this one has the name
abbrev pub invariant-loop-list : goal.invariant-loop-list
invariant-loop-list l =
    list_any (list_knows l.ordered (named l.name)) (map list_view (take l.list-index l.lists)) ≡ false
