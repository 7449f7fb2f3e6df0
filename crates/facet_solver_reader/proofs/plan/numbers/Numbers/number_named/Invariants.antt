use Rattle.std.proofs.Common.{map}
use Rattle.facet_solver_reader.specs.PlanNumbers.{AreMore, HasNumber}
use Rattle.facet_solver_reader.specs.Views.{named_view}
use Rattle.facet_solver_reader.proofs.Marks.{EachBefore}
use Rattle.facet_solver_reader.proofs.plan.numbers.Numbers.number_named.Given as goal

-- what those before this one are read as has numbers
abbrev pub invariant-loop-variant : goal.invariant-loop-variant
invariant-loop-variant l = record {
  more : AreMore l.tables l.initial.self l.self;
  numbered : EachBefore (λ v. HasNumber l.self v.content) (map named_view l.variants) l.variant-index;
}
