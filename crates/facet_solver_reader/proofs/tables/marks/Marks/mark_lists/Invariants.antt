use Rattle.std.proofs.Common.{All, map}
use Rattle.facet_solver_shape.specs.Catalogues.{Catalogue}
use Rattle.facet_solver_reader.specs.Met.{IfChosen, StayMet}
use Rattle.facet_solver_reader.specs.Marks.{AreAdded, ListIsMarked}
use Rattle.facet_solver_reader.specs.Views.{list_view}
use Rattle.facet_solver_reader.proofs.Marks.{EachBefore}
use Rattle.facet_solver_reader.proofs.tables.marks.Marks.mark_lists.Given as goal

-- what those before this one lead to is marked
abbrev pub invariant-loop-list : goal.invariant-loop-list
invariant-loop-list l = record {
  added : AreAdded l.every l.initial.self l.self;
  marked : EachBefore (ListIsMarked l.every l.self) (map list_view l.lists) l.list-index;
  met : (shapes : Catalogue)
      → StayMet shapes l.every l.initial.self l.self (λ strict root. All (IfChosen shapes strict root) (map list_view l.lists));
}
