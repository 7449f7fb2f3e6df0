use Rattle.std.proofs.Common.{◌≡◌, ◌<◌, ℕ, All, Some, slice_get}
use Rattle.facet_solver_reader.specs.declared.tables.List.{List as ListEntry}
use Rattle.facet_solver_reader.specs.PlanNumbers.{AreMore, PartIsNumbered}
use Rattle.facet_solver_reader.specs.Views.{parts_view}
use Rattle.facet_solver_reader.proofs.plan.numbers.Numbers.number_lists.Given as goal

-- what the members of the lists before this one are read as has numbers
abbrev pub invariant-loop-list : goal.invariant-loop-list
invariant-loop-list l = record {
  more : AreMore l.tables l.initial.self l.self;
  numbered : (k : ℕ) (e : ListEntry) → k < l.list-index → slice_get l.tables.lists.items k ≡ Some e
      → All (PartIsNumbered l.self) (parts_view e.parts.items);
}
