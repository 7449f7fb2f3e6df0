use Rattle.std.proofs.Common.{map}
use Rattle.facet_solver_reader.specs.PlanNumbers.{AreMore, PartIsNumbered}
use Rattle.facet_solver_reader.specs.Views.{part_view}
use Rattle.facet_solver_reader.proofs.Marks.{EachBefore}
use Rattle.facet_solver_reader.proofs.plan.numbers.Numbers.number_members.Given as goal

-- what those before this one are read as has numbers
abbrev pub invariant-loop-part : goal.invariant-loop-part
invariant-loop-part l = record {
  more : AreMore l.tables l.initial.self l.self;
  numbered : EachBefore (PartIsNumbered l.self) (map part_view l.parts) l.part-index;
}
