use Rattle.std.proofs.Common.{◌≡◌, ◌-◌, length}
use Rattle.facet_solver_reader.specs.Ends.{last_of, last_within}
use Rattle.facet_solver_reader.proofs.ends.last_of.Given as goal

-- the way from the start ends where the way from here ends, in the steps that are left
abbrev pub invariant-loop : goal.invariant-loop
invariant-loop l =
    last_of l.shapes l.fn.id ≡ last_within l.shapes (length l.shapes - l.counter) l.last
