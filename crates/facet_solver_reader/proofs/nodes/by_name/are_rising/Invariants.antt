use Rattle.std.proofs.Common.{◌≡◌, ℕ, ◌+◌, ◌<◌, Bor, get_or, Less}
use Rattle.facet_solver_shape.specs.Names.{Name, name_ref_cmp}
use Rattle.facet_solver_reader.proofs.nodes.by_name.are_rising.Given as goal

-- the names so far rise
abbrev pub invariant-loop-later : goal.invariant-loop-later
invariant-loop-later l = (k : ℕ) (d : Bor Name × ℕ) → k + 1 < l.later → name_ref_cmp (get_or l.named k d).0 (get_or l.named (k + 1) d).0 ≡ Less
