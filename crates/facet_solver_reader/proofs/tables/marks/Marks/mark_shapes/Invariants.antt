use Rattle.std.proofs.Common.{◌≡◌, All, map}
use Rattle.facet_solver_shape.specs.Catalogues.{Catalogue}
use Rattle.facet_solver_reader.specs.declared.tables.every.EveryList.{EveryList}
use Rattle.facet_solver_reader.specs.Marks.{AreKept, ShapeIsMarked}
use Rattle.facet_solver_reader.specs.Met.{ShapeIsMet, StayMet}
use Rattle.facet_solver_reader.proofs.Marks.{EachBefore}
use Rattle.facet_solver_reader.proofs.tables.marks.Marks.mark_shapes.Given as goal

-- the shapes before this one are marked
abbrev pub invariant-loop-id : goal.invariant-loop-id
invariant-loop-id l = record {
  kept : AreKept l.initial.self l.self;
  lists : l.self.lists ≡ l.initial.self.lists;
  marked : EachBefore (ShapeIsMarked l.self) (map (λ x. x) l.shapes) l.id-index;
  met : (all : Catalogue) (every : EveryList)
      → StayMet all every l.initial.self l.self (λ strict root. All (ShapeIsMet all strict root) l.shapes);
}
