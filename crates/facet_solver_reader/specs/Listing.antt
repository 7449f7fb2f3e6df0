-- Every list of a catalogue: which are added so far, and which are found to have a choice.
use Rattle.std.specs.Prelude.{◌≡◌, ◌<◌, ◌+◌, ⊤, ℕ, Bool, true, false, ◌||◌, List, Some, None, MatchOption, IsTrue, if◌then◌else◌, length, slice_get}
use Rattle.std.specs.List.{list_any, list_all, sum_by}
use Rattle.std.specs.Option.{option_map_or}
use Rattle.facet_solver_shape.specs.Catalogues.{Catalogue}
use Rattle.facet_solver_reader.specs.declared.part.Part.{Part}
use Rattle.facet_solver_reader.specs.declared.part.Part.TheVariants.{Member, Selection, CatchAll}
use Rattle.facet_solver_reader.specs.declared.tables.every.EveryList.{EveryList}
use Rattle.facet_solver_reader.specs.declared.tables.every.Listed.{Listed}
use Rattle.facet_solver_reader.specs.EveryList.{IsChosen, IsNumbered}
use Rattle.facet_solver_reader.specs.Parts.{ListId}
use Rattle.facet_solver_reader.specs.Slots.{HasSlot, IsOfCatalogue, index_of}
use Rattle.facet_solver_reader.specs.Types.{parts_of}
use Rattle.facet_solver_reader.specs.Views.{list_view, parts_view}

-- a list has the parts and the number of its name, and is not yet told to have a choice
pub record IsEntry (shapes : Catalogue) (every : EveryList) (number : ℕ) (l : Listed) : Type 0 where
  pub same : parts_of shapes (list_view l.id) ≡ Some (parts_view l.parts.items)
  pub own : index_of every.numbers (list_view l.id) ≡ Some number
  pub unmarked : l.has_choice ≡ false

-- lists, none of which is told to have a choice, each under the number of its name
pub record AreListed (shapes : Catalogue) (every : EveryList) : Type 0 where
  pub entries : (number : ℕ) (l : Listed) → slice_get every.lists.items number ≡ Some l
      → IsEntry shapes every number l
  pub numbered : (id : ListId)
      → MatchOption (index_of every.numbers id) ⊤ (IsNumbered every id)
  pub slots_are : (id : ListId) → IsOfCatalogue shapes id → HasSlot every.numbers id

-- the lists of some names are added, if they have parts, and the others are as before
pub record AreListsAdded (shapes : Catalogue) (old new : EveryList) (Done : ListId → Type 0)
    : Type 0
  where
    pub listed : AreListed shapes new
    pub done : (q : ListId) → Done q → index_of new.numbers q ≡ None → parts_of shapes q ≡ None
    pub others : (q : ListId) → (Done q → ⊥) → index_of new.numbers q ≡ index_of old.numbers q

-- whether a list is told to have a choice
abbrev pub has_choice : EveryList → ListId → Bool
has_choice every id =
    option_map_or
    (λ n. option_map_or (λ l. l.has_choice) (slice_get every.lists.items n) false)
    (index_of every.numbers id) false

-- whether a part has a choice by that: a selection has, if it may be absent or a branch has
abbrev pub part_has_choice : EveryList → Part → Bool
part_has_choice every (Member m) = true
part_has_choice every (Selection s) =
    s.optional || list_any (λ b. has_choice every (list_view b)) s.branches.items
part_has_choice every (CatchAll k) = true

-- whether each part has
abbrev pub parts_have_choices : EveryList → List Part → Bool
parts_have_choices every ps = list_all (part_has_choice every) ps

-- a list has the parts of its name, and has a choice if it is told to
pub record IsFound (shapes : Catalogue) (l : Listed) : Type 0 where
  pub same : parts_of shapes (list_view l.id) ≡ Some (parts_view l.parts.items)
  pub chosen : IsTrue l.has_choice → IsChosen shapes (list_view l.id)

-- every list that has a choice is there, under the number of its name; some are told to have one
pub record AreFound (shapes : Catalogue) (every : EveryList) : Type 0 where
  pub listed : (number : ℕ) (l : Listed) → slice_get every.lists.items number ≡ Some l
      → IsFound shapes l
  pub numbered : (id : ListId)
      → MatchOption (index_of every.numbers id) (IsChosen shapes id → ⊥) (IsNumbered every id)
  pub own : (number : ℕ) (l : Listed) → slice_get every.lists.items number ≡ Some l
      → index_of every.numbers (list_view l.id) ≡ Some number

-- a list is told to have a choice, if its parts have
abbrev pub IsSettledAt : EveryList → ℕ → Type 0
IsSettledAt every number =
    (l : Listed) → slice_get every.lists.items number ≡ Some l
    → IsTrue (parts_have_choices every l.parts.items) → IsTrue l.has_choice

-- so is each
abbrev pub IsSettled : EveryList → Type 0
IsSettled every = (number : ℕ) → IsSettledAt every number

-- how many lists are not told to have a choice
abbrev pub unmarked : EveryList → ℕ
unmarked every = sum_by (λ l. if l.has_choice then 0 else 1) every.lists.items

-- what is found still holds
abbrev pub KeepsFound : EveryList → EveryList → Type 0
KeepsFound old new = (shapes : Catalogue) → AreFound shapes old → AreFound shapes new

-- a list is marked, or it is settled and nothing changes
pub record IsTried (old : EveryList) (number : ℕ) (marked : Bool) (new : EveryList) : Type 0 where
  pub found : KeepsFound old new
  pub length_is : length new.lists.items ≡ length old.lists.items
  pub one_more : IsTrue marked → unmarked old ≡ unmarked new + 1
  pub same : marked ≡ false → new ≡ old
  pub settled : marked ≡ false → IsSettledAt new number

-- some lists are marked, or each is settled
pub record AreTried (old : EveryList) (marked : Bool) (new : EveryList) : Type 0 where
  pub found : KeepsFound old new
  pub more : IsTrue marked → unmarked new < unmarked old
  pub settled : marked ≡ false → IsSettled new
