-- Every list of parts of a catalogue, with its parts and whether it has a choice.
use Rattle.std.specs.Prelude.{◌≡◌, ◌↔◌, ℕ, IsTrue, Some, MatchOption, slice_get}
use Rattle.facet_solver_shape.specs.Catalogues.{Catalogue}
use Rattle.facet_solver_reader.specs.declared.tables.every.EveryList.{EveryList}
use Rattle.facet_solver_reader.specs.declared.tables.every.Listed.{Listed}
use Rattle.facet_solver_reader.specs.Known.{Chooses, HasChoice}
use Rattle.facet_solver_reader.specs.Parts.{ListId}
use Rattle.facet_solver_reader.specs.Slots.{index_of}
use Rattle.facet_solver_reader.specs.Types.{parts_of}
use Rattle.facet_solver_reader.specs.Views.{list_view, parts_view}

-- some choice of the list's parts exists
abbrev pub IsChosen : Catalogue → ListId → Type 0
IsChosen shapes id = HasChoice (Chooses (parts_of shapes) id)

-- a list has the parts of its name, and is told to have a choice exactly if it has one
pub record IsAsNamed (shapes : Catalogue) (l : Listed) : Type 0 where
  pub same : parts_of shapes (list_view l.id) ≡ Some (parts_view l.parts.items)
  pub chosen : IsTrue l.has_choice ↔ IsChosen shapes (list_view l.id)

-- the list of a number has the name
pub record IsNumbered (every : EveryList) (id : ListId) (number : ℕ) : Type 0 where
  pub list : Listed
  pub is_there : slice_get every.lists.items number ≡ Some list
  pub same : list_view list.id ≡ id

-- every list of a catalogue that has a choice is there, under the number of its name
pub record AreEveryList (shapes : Catalogue) (every : EveryList) : Type 0 where
  pub listed : (number : ℕ) (l : Listed) → slice_get every.lists.items number ≡ Some l
      → IsAsNamed shapes l
  pub numbered : (id : ListId)
      → MatchOption (index_of every.numbers id) (IsChosen shapes id → ⊥) (IsNumbered every id)
  pub own : (number : ℕ) (l : Listed) → slice_get every.lists.items number ≡ Some l
      → index_of every.numbers (list_view l.id) ≡ Some number
