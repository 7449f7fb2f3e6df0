-- Which lists have something to tell of an object that is read by them.
use Rattle.std.specs.Prelude.{◌≡◌, ◌&&◌, ◌||◌, ℕ, Bool, false, IsTrue, List, Some, slice_get}
use Rattle.std.specs.List.{list_any}
use Rattle.facet_solver_reader.specs.declared.tables.List.{List as ListEntry}
use Rattle.facet_solver_reader.specs.declared.tables.Tables.{Tables}
use Rattle.facet_solver_reader.specs.Known.{Chooses, IsKnown, Key}
use Rattle.facet_solver_reader.specs.Parts.{ListId, Part, a_selection}
use Rattle.facet_solver_reader.specs.Steps.{is_branch, is_of_enum}
use Rattle.facet_solver_reader.specs.Tables.{rules_at}
use Rattle.facet_solver_reader.specs.Views.{list_view, parts_view}

-- whether a part is an enum that may be absent
abbrev pub may_lack_enum : Part → Bool
may_lack_enum (a_selection s) = s.optional && is_of_enum s
may_lack_enum _ = false

-- whether a list of parts tells of an enum: it is a branch of one, or one may be absent in it
abbrev pub tells_of_enum : ListId → List Part → Bool
tells_of_enum id ps = is_branch id || list_any may_lack_enum ps

-- a list that tells of an enum is among those that the choices of a list go through
pub record HasEnumBelow (t : Tables) (l : ListEntry) : Type 0 where
  pub position : ℕ
  pub index : ℕ
  pub entry : ListEntry
  pub is_below : slice_get l.below.items position ≡ Some index
  pub listed : slice_get t.lists.items index ≡ Some entry
  pub tells : IsTrue (tells_of_enum (list_view entry.id) (parts_view entry.parts.items))

-- no choice of a list has a member or a catch-all, and none goes through a list that tells of an
-- enum
pub record TellsNothing (t : Tables) (l : ListEntry) : Type 0 where
  pub no_key : (x : Key) → IsKnown (Chooses (rules_at t).lists (list_view l.id)) x → ⊥
  pub no_enum : HasEnumBelow t l → ⊥
