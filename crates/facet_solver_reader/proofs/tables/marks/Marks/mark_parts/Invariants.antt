use Rattle.std.proofs.Common.{All, map}
use Rattle.facet_solver_reader.specs.Met.{PartIsMet, StayMet}
use Rattle.facet_solver_reader.specs.Marks.{AreAdded, PartIsMarked}
use Rattle.facet_solver_reader.specs.Views.{part_view}
use Rattle.facet_solver_reader.proofs.Marks.{EachBefore}
use Rattle.facet_solver_reader.proofs.tables.marks.Marks.mark_parts.Given as goal

-- what those before this one lead to is marked
abbrev pub invariant-loop-part : goal.invariant-loop-part
invariant-loop-part l = record {
  added : AreAdded l.every l.initial.self l.self;
  marked : EachBefore (PartIsMarked l.types l.every l.self) (map part_view l.parts) l.part-index;
  met : StayMet l.types l.every l.initial.self l.self
      (λ strict root. All (PartIsMet l.types strict root) (map part_view l.parts));
}
