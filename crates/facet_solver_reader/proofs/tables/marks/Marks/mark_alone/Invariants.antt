use Rattle.std.proofs.Common.{All, map}
use Rattle.facet_solver_reader.specs.Met.{StayMet, TargetIsMet}
use Rattle.facet_solver_reader.specs.Marks.{AreAdded, TargetIsMarked}
use Rattle.facet_solver_reader.specs.Views.{alternative_view}
use Rattle.facet_solver_reader.proofs.Marks.{EachBefore}
use Rattle.facet_solver_reader.proofs.tables.marks.Marks.mark_alone.Given as goal

-- what those before this one lead to is marked
abbrev pub invariant-loop-alternative : goal.invariant-loop-alternative
invariant-loop-alternative l = record {
  added : AreAdded l.every l.initial.self l.self;
  marked : EachBefore (λ v. TargetIsMarked l.types l.every l.self v.content) (map alternative_view l.alone) l.alternative-index;
  met : StayMet l.types l.every l.initial.self l.self
      (λ strict root. All (λ v. TargetIsMet l.types strict root v.content) (map alternative_view l.alone));
}
