use Rattle.std.proofs.Common.{◌≡◌, take}
use Rattle.std.specs.Prelude.{false}
use Rattle.std.specs.List.{list_any}
use Rattle.facet_solver_uses.specs.stream.Place.{is_list}
use Rattle.facet_solver_uses.proofs.stream.place.Place.in_list.Given as goal

-- no frame so far is a list
abbrev pub invariant-loop-frame : goal.invariant-loop-frame
invariant-loop-frame l = list_any is_list (take l.frame-index l.self.frames) ≡ false
