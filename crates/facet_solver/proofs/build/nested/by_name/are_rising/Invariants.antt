use Rattle.std.proofs.Common.{◌≡◌, ℕ, ◌+◌, ◌<◌, Bor, Less, get_or}
use Rattle.facet_solver_shape.specs.Names.{Name, name_ref_cmp}
use Rattle.facet_solver.specs.declared.build.nested.shapes_behind.ShapesBehind.{ShapesBehind}
use Rattle.facet_solver.proofs.build.nested.by_name.are_rising.Given as goal

-- the names so far rise
abbrev pub invariant-loop-later : goal.invariant-loop-later
invariant-loop-later l = (k : ℕ) (d : Bor Name × ShapesBehind) → k + 1 < l.later → name_ref_cmp (get_or l.names k d).0 (get_or l.names (k + 1) d).0 ≡ Less
