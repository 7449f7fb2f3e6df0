-- The lists that are reached, in an order in which those of branches come first.
use Rattle.std.specs.Prelude.{◌≡◌, ◌↔◌, ◌<◌, ◌+◌, ⊤, ℕ, zero, suc, Bool, true, IsTrue, IsSorted, List, All, Any, Some, MatchOption, length, slice_get}
use Rattle.std.specs.List.Sorted.{IsStrictlyIncreasing}
use Rattle.facet_solver_shape.specs.Catalogues.{Catalogue}
use Rattle.facet_solver_shape.specs.Names.{name_ref_cmp}
use Rattle.facet_solver_reader.specs.declared.tables.every.EveryList.{EveryList}
use Rattle.facet_solver_reader.specs.declared.tables.every.Listed.{Listed}
use Rattle.facet_solver_reader.specs.declared.tables.List.{List as ListEntry}
use Rattle.facet_solver_reader.specs.declared.tables.order.Ordered.{Ordered}
use Rattle.facet_solver_reader.specs.declared.tables.fault.Fault.{Fault}
use Rattle.facet_solver_reader.specs.declared.tables.fault.Fault.TheVariants.{NoShape, ReadsItself, ContainsItself, NameTwice, TwoCatchAlls, OutOfMemory}
use Rattle.facet_solver_reader.specs.EveryList.{IsChosen}
use Rattle.facet_solver_reader.specs.Known.{Chooses, ChoosesAt, IsDistinct, IsKnown, Key, named, rest}
use Rattle.facet_solver_reader.specs.Parts.{ListId, Part, a_selection}
use Rattle.facet_solver_reader.specs.Repeated.{Repeats}
use Rattle.facet_solver_reader.specs.SelectionNames.{PartHasBranchNames}
use Rattle.facet_solver_reader.specs.Slots.{index_of}
use Rattle.facet_solver_reader.specs.Tables.{knows}
use Rattle.facet_solver_reader.specs.Types.{parts_of}
use Rattle.facet_solver_reader.specs.Views.{list_view, parts_view}

-- a list of a number is marked
abbrev pub IsMarked : List Bool → ℕ → Type 0
IsMarked marks number = slice_get marks number ≡ Some true

-- the index of each branch with a choice stands before a position of a list of indices
abbrev pub IsBefore : Ordered → List ℕ → ℕ → ListId → Type 0
IsBefore o below position branch =
    MatchOption (index_of o.slots branch) ⊤
    (λ index. (q : ℕ) × (q < position) × (slice_get below q ≡ Some index))

-- the same of each branch of a part
abbrev pub ArePartsBefore : Ordered → List ℕ → ℕ → Part → Type 0
ArePartsBefore o below position (a_selection s) = All (IsBefore o below position) s.branches
ArePartsBefore o below position _ = ⊤

-- indices of lists, each after those of its branches
abbrev pub AreIndicesInOrder : Ordered → List ℕ → Type 0
AreIndicesInOrder o below =
    (position index : ℕ) → slice_get below position ≡ Some index
    → (l : ListEntry) × (slice_get o.lists.items index ≡ Some l)
    × All (ArePartsBefore o below position) (parts_view l.parts.items)

-- the list at an index is as its type says, some choice has it, and none has a key twice
pub record IsPlaced (shapes : Catalogue) (o : Ordered) (index : ℕ) (l : ListEntry) : Type 0 where
  pub same : parts_of shapes (list_view l.id) ≡ Some (parts_view l.parts.items)
  pub chosen : IsChosen shapes (list_view l.id)
  pub distinct : IsDistinct (Chooses (parts_of shapes) (list_view l.id))
  pub known : (x : Key)
      → IsTrue (knows l x) ↔ IsKnown (Chooses (parts_of shapes) (list_view l.id)) x
  pub sorted : IsSorted name_ref_cmp l.names.items
  pub named : All (PartHasBranchNames (parts_of shapes)) l.parts.items
  pub in_order : AreIndicesInOrder o l.below.items
  pub rising : IsStrictlyIncreasing l.below.items
  pub last : (q : ℕ) × (length l.below.items ≡ q + 1) × (slice_get l.below.items q ≡ Some index)

-- the list of a name stands at the index
pub record IsPlacedAt (o : Ordered) (id : ListId) (index : ℕ) : Type 0 where
  pub entry : ListEntry
  pub is_there : slice_get o.lists.items index ≡ Some entry
  pub same : list_view entry.id ≡ id

-- what is placed is as its type says, and the marked lists are placed
pub record AreOrdered (shapes : Catalogue) (every : EveryList) (marks : List Bool) (o : Ordered)
    : Type 0 where
  pub placed : (index : ℕ) (l : ListEntry) → slice_get o.lists.items index ≡ Some l
      → IsPlaced shapes o index l
  pub at : (id : ListId) → MatchOption (index_of o.slots id) ⊤ (IsPlacedAt o id)
  pub marked : (number : ℕ) (l : Listed) → slice_get every.lists.items number ≡ Some l
      → IsMarked marks number → (index : ℕ) × (index_of o.slots (list_view l.id) ≡ Some index)
  pub from_marked : (index : ℕ) (l : ListEntry) → slice_get o.lists.items index ≡ Some l
      → (number : ℕ) × (index_of every.numbers (list_view l.id) ≡ Some number)
      × IsMarked marks number

-- a branch is marked, or has no choice
abbrev pub BranchIsMarked : Catalogue → EveryList → List Bool → ListId → Type 0
BranchIsMarked shapes every marks id =
    IsChosen shapes id
    → (number : ℕ) × (index_of every.numbers id ≡ Some number) × IsMarked marks number

-- the same of each branch of a part
abbrev pub BranchesAreMarked : Catalogue → EveryList → List Bool → Part → Type 0
BranchesAreMarked shapes every marks (a_selection s) =
    All (BranchIsMarked shapes every marks) s.branches
BranchesAreMarked shapes every marks _ = ⊤

-- each marked list has a choice, and each branch of it that has one is marked
pub record AreMarksClosed (shapes : Catalogue) (every : EveryList) (marks : List Bool) : Type 0 where
  pub same_length : length marks ≡ length every.lists.items
  pub chosen : (number : ℕ) (l : Listed) → slice_get every.lists.items number ≡ Some l
      → IsMarked marks number → IsTrue l.has_choice
  pub branches : (number : ℕ) (l : Listed) → slice_get every.lists.items number ≡ Some l
      → IsMarked marks number → All (BranchesAreMarked shapes every marks) (parts_view l.parts.items)

-- a choice of the list has the key twice
abbrev pub IsTwiceIn : Catalogue → ListId → Key → Type 0
IsTwiceIn shapes id x = Repeats (Chooses (parts_of shapes) id) x

-- a choice of the list has the key twice: some choice of the part of the one index has it, and
-- some of the part of the other, which comes later
pub record IsTwiceAt (shapes : Catalogue) (id : ListId) (x : Key) (first second : ℕ) : Type 0
  where
    pub twice : IsTwiceIn shapes id x
    pub parts : List Part
    pub one : Part
    pub other : Part
    pub parts_are : parts_of shapes id ≡ Some parts
    pub apart : first < second
    pub at_first : slice_get parts first ≡ Some one
    pub at_second : slice_get parts second ≡ Some other
    pub first_has : IsKnown (ChoosesAt (parts_of shapes) one) x
    pub second_has : IsKnown (ChoosesAt (parts_of shapes) other) x

-- the branches of a selection among parts have the list
abbrev pub IsBranchOf : ListId → Part → Type 0
IsBranchOf id (a_selection s) = Any (λ b. b ≡ id) s.branches
IsBranchOf id _ = ⊥

-- a list has another as a branch of its parts, and some choice has that
pub record HasBranch (shapes : Catalogue) (id branch : ListId) : Type 0 where
  pub parts : List Part
  pub parts_are : parts_of shapes id ≡ Some parts
  pub is_branch : Any (IsBranchOf branch) parts
  pub chosen : IsChosen shapes branch

-- one list comes to another in so many steps from a list to a branch
abbrev pub ComesIn : ℕ → Catalogue → ListId → ListId → Type 0
ComesIn zero shapes id last = id ≡ last
ComesIn (suc n) shapes id last =
    (branch : ListId) × HasBranch shapes id branch × ComesIn n shapes branch last

-- from a list the way from branch to branch goes on, however long it is
abbrev pub GoesOn : Catalogue → ListId → Type 0
GoesOn shapes id = (n : ℕ) → (last : ListId) × ComesIn n shapes id last

-- why lists cannot be ordered: of one the way from branch to branch has no end, or a choice of one
-- has a key twice, by parts of these indices
abbrev pub IsWhyUnordered : Catalogue → Fault → Type 0
IsWhyUnordered shapes (NoShape shape) = ⊥
IsWhyUnordered shapes (ReadsItself shape) = ⊥
IsWhyUnordered shapes (ContainsItself id) = GoesOn shapes (list_view id)
IsWhyUnordered shapes (NameTwice id name first second) =
    IsTwiceAt shapes (list_view id) (named name.now) first second
IsWhyUnordered shapes (TwoCatchAlls id first second) =
    IsTwiceAt shapes (list_view id) rest first second
IsWhyUnordered shapes OutOfMemory = ⊤

-- the list that a fault is of, if it is of one, has a property
abbrev pub IsAbout : (ListId → Type 0) → Fault → Type 0
IsAbout L (ContainsItself id) = L (list_view id)
IsAbout L (NameTwice id name first second) = L (list_view id)
IsAbout L (TwoCatchAlls id first second) = L (list_view id)
IsAbout L _ = ⊤

-- a list is one of those that are marked
pub record IsMarkedList (every : EveryList) (marks : List Bool) (id : ListId) : Type 0 where
  pub number : ℕ
  pub list : Listed
  pub is_there : slice_get every.lists.items number ≡ Some list
  pub same : list_view list.id ≡ id
  pub marked : IsMarked marks number
