use Rattle.std.proofs.Common.{map}
use Rattle.facet_solver_reader.specs.PlanNumbers.{AreMore, HasNumber}
use Rattle.facet_solver_reader.specs.TargetKeys.{key_view}
use Rattle.facet_solver_reader.proofs.Marks.{EachBefore}
use Rattle.facet_solver_reader.proofs.plan.numbers.Numbers.+number_within.Given as goal

abbrev pub decreases-number_within : goal.decreases-number_within
decreases-number_within l = l.steps

-- the targets before this one have numbers
abbrev pub invariant-loop-next : goal.invariant-loop-next
invariant-loop-next l = record {
  more : AreMore l.tables l.initial.self l.self;
  numbered : EachBefore (HasNumber l.self) (map key_view l.next-items) l.next-index;
}
