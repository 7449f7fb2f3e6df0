-- The lists of parts of a plan, as they are made of those of tables.
use Rattle.std.specs.Prelude.{◌≡◌, ⊤, ℕ, List, [], Some, slice_get}
use Rattle.std.specs.List.{filter_map}
use Rattle.facet_solver_reader.specs.declared.plan.PlannedList.{PlannedList}
use Rattle.facet_solver_reader.specs.declared.plan.PlannedPart.{PlannedPart}
use Rattle.facet_solver_reader.specs.declared.plan.PlannedPart.TheVariants as parts
use Rattle.facet_solver_reader.specs.declared.plan.numbers.Numbers.{Numbers}
use Rattle.facet_solver_reader.specs.declared.tables.List.{List as ListEntry}
use Rattle.facet_solver_reader.specs.declared.tables.slots.Slots.{Slots}
use Rattle.facet_solver_reader.specs.declared.tables.Tables.{Tables}
use Rattle.facet_solver_reader.specs.Parts.{ListId, Part, a_selection}
use Rattle.facet_solver_reader.specs.PlanNumbers.{meaning_of}
use Rattle.facet_solver_reader.specs.Plans.{AreInPairs, IsPlannedList, IsPlannedPart}
use Rattle.facet_solver_reader.specs.Slots.{index_of}
use Rattle.facet_solver_reader.specs.Views.{list_view, parts_view}

-- the indices of those lists that have one
abbrev pub indices_of : Slots → List ListId → List ℕ
indices_of slots ids = filter_map (index_of slots) ids

-- the branches of a part: there are none where it is no selection
abbrev pub branches_of : Part → List ListId
branches_of (a_selection s) = s.branches
branches_of _ = []

-- a selection has the indices of the branches of a part
abbrev pub HasIndices : Slots → Part → PlannedPart → Type 0
HasIndices slots part (parts.Selection p) = p.branches.items ≡ indices_of slots (branches_of part)
HasIndices slots part _ = ⊤

-- a part is planned, and has the indices of its branches
pub record IsPartFrom (t : Tables) (n : Numbers) (part : Part) (p : PlannedPart) : Type 0 where
  pub planned : IsPlannedPart (meaning_of t n) part p
  pub indices : HasIndices t.slots part p

-- a list stands in tables
abbrev pub IsListed : Tables → ListEntry → Type 0
IsListed t l = (index : ℕ) × (slice_get t.lists.items index ≡ Some l)

-- a list is planned, and has the indices of its branches and of what is below it
pub record IsListFrom (t : Tables) (n : Numbers) (l : ListEntry) (p : PlannedList) : Type 0 where
  pub planned : IsPlannedList (meaning_of t n) (list_view l.id) p
  pub branches : AreInPairs (HasIndices t.slots) (parts_view l.parts.items) p.parts.items
  pub below : p.below.items ≡ l.below.items
