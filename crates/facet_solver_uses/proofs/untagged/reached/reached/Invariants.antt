use Rattle.std.proofs.Common.{◌≡◌, ◌-◌, length}
use Rattle.facet_solver_uses.specs.Reached.{reached, reached_within}
use Rattle.facet_solver_uses.proofs.untagged.reached.reached.Given as goal

-- what is reached from the start is what is reached from here, in the steps that are left
abbrev pub invariant-loop : goal.invariant-loop
invariant-loop l =
    reached l.shapes l.fn.start ≡ reached_within (length l.shapes - l.counter) l.shapes l.id
