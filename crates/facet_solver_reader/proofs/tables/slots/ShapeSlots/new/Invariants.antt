use Rattle.std.proofs.Common.{◌≡◌, length}
use Rattle.facet_solver_reader.specs.Slots.{AreNone}
use Rattle.facet_solver_reader.proofs.tables.slots.ShapeSlots.new.Given as goal

-- so many slots of branches and of fields, each with no index
abbrev pub invariant-loop : goal.invariant-loop
invariant-loop l = record {
  branches : AreNone l.counter l.branches.items;
  branches_are : length l.branches.items ≡ l.counter;
  fields : AreNone l.counter l.fields.items;
  fields_are : length l.fields.items ≡ l.counter;
}
