use Rattle.std.proofs.Common.{map}
use Rattle.facet_solver_reader.specs.PlanNumbers.{AreMore, HasNumber}
use Rattle.facet_solver_reader.specs.Views.{alternative_view}
use Rattle.facet_solver_reader.proofs.Marks.{EachBefore}
use Rattle.facet_solver_reader.proofs.plan.numbers.Numbers.number_alone.Given as goal

-- what those before this one are read as has numbers
abbrev pub invariant-loop-alternative : goal.invariant-loop-alternative
invariant-loop-alternative l = record {
  more : AreMore l.tables l.initial.self l.self;
  numbered : EachBefore (λ a. HasNumber l.self a.content) (map alternative_view l.alone) l.alternative-index;
}
