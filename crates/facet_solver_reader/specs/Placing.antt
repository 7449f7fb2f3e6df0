-- What the lists that are placed know, and what holds while more are placed.
use Rattle.std.specs.Prelude.{◌≡◌, ◌↔◌, ◌<◌, ◌∷◌, ◌++◌, [], ⊤, ℕ, Bool, true, false, IsSorted, IsTrue, List, All, Any, Contains, Option, Some, None, MatchOption, count_by, length, slice_get, option_and_then}
use Rattle.std.specs.Borrow.{Bor}
use Rattle.std.specs.List.{list_any}
use Rattle.std.specs.List.Sorted.{IsStrictlyIncreasing}
use Rattle.std.specs.Option.{is_none, option_map_or}
use Rattle.std.specs.Str.{bytes_eq}
use Rattle.facet_solver_shape.specs.Catalogues.{Catalogue}
use Rattle.facet_solver_shape.specs.Names.{Name, name_ref_cmp, names_of}
use Rattle.facet_solver_reader.specs.declared.part.Part as code_part
use Rattle.facet_solver_reader.specs.declared.part.Selection as code_selection
use Rattle.facet_solver_reader.specs.declared.tables.every.EveryList.{EveryList}
use Rattle.facet_solver_reader.specs.declared.tables.every.Listed.{Listed}
use Rattle.facet_solver_reader.specs.declared.tables.List.{List as ListEntry}
use Rattle.facet_solver_reader.specs.declared.tables.order.Ordered.{Ordered}
use Rattle.facet_solver_reader.specs.declared.tables.fault.Fault.{Fault}
use Rattle.facet_solver_reader.specs.declared.tables.fault.Fault.TheVariants.{NoShape, ReadsItself, ContainsItself, NameTwice, TwoCatchAlls, OutOfMemory}
use Rattle.facet_solver_reader.specs.EveryList.{IsChosen}
use Rattle.facet_solver_reader.specs.Known.{Chooses, IsDistinct, IsKnown, Key, named, rest}
use Rattle.facet_solver_reader.specs.OrderedLists.{ArePartsBefore, IsMarked, IsPlaced, IsPlacedAt}
use Rattle.facet_solver_reader.specs.Parts.{ListId, Part, a_member, a_selection, a_catch_all}
use Rattle.facet_solver_reader.specs.Places.{IsRepeated}
use Rattle.facet_solver_reader.specs.SelectionNames.{PartHasBranchNames}
use Rattle.facet_solver_reader.specs.Slots.{HasSlot, IsOfCatalogue, IsSet, index_of}
use Rattle.facet_solver_reader.specs.Tables.{knows}
use Rattle.facet_solver_reader.specs.Types.{parts_of}
use Rattle.facet_solver_reader.specs.Views.{list_view, parts_view, selection_view}

-- which lists are marked, by their numbers
abbrev pub Marks : Type 0
Marks = List Bool

-- a list, if it is placed
abbrev pub entry_of : Ordered → ListId → Option ListEntry
entry_of o id = option_and_then (slice_get o.lists.items) (index_of o.slots id)

-- whether the choices of a list that is placed have the key
abbrev pub list_knows : Ordered → Key → ListId → Bool
list_knows o x id = option_map_or (λ l. knows l x) (entry_of o id) false

-- whether a member of the name goes by the key
abbrev pub goes_by : Name → Key → Bool
goes_by name (named x) = bytes_eq name x
goes_by name rest = false

-- whether the key is the rest
abbrev pub is_rest : Key → Bool
is_rest (named x) = false
is_rest rest = true

-- whether the choices of a part have the key, by the lists that are placed
abbrev pub part_knows : Ordered → Key → Part → Bool
part_knows o x (a_member m) = goes_by m.name x
part_knows o x (a_selection s) = list_any (list_knows o x) s.branches
part_knows o x (a_catch_all k) = is_rest x

-- the names of a kind, each once
pub record AreThose (P : Name → Type 0) (names : List Name) : Type 0 where
  pub has : (x : Name) → Contains names x ↔ P x
  pub once : (x : Name) → IsRepeated names x → ⊥

-- a selection has the names that it knows by the lists that are placed, rising
pub record HasBranchNamesIn (o : Ordered) (s : code_selection.Selection) : Type 0 where
  pub sorted : IsSorted name_ref_cmp s.names.items
  pub those : AreThose (λ x. IsTrue (part_knows o (named x) (a_selection (selection_view s))))
      (names_of s.names.items)

-- so has a part, if it is a selection
abbrev pub PartHasBranchNamesIn : Ordered → code_part.Part → Type 0
PartHasBranchNamesIn o (code_part.TheVariants.Selection s) = HasBranchNamesIn o s
PartHasBranchNamesIn o _ = ⊤

-- the names that a part knows are added behind others
pub record AreNamesAdded (o : Ordered) (p : Part) (old new : List Name) : Type 0 where
  pub more : List Name
  pub new_is : new ≡ old ++ more
  pub those : AreThose (λ x. IsTrue (part_knows o (named x) p)) more

-- two parts know the key
pub record IsShared (o : Ordered) (ps : List Part) (x : Key) : Type 0 where
  pub first : ℕ
  pub second : ℕ
  pub apart : first < second
  pub one : Part
  pub other : Part
  pub at_first : slice_get ps first ≡ Some one
  pub at_second : slice_get ps second ≡ Some other
  pub first_knows : IsTrue (part_knows o x one)
  pub second_knows : IsTrue (part_knows o x other)

-- the parts of two indices know the key, the first before the second
abbrev pub AreSharing : Ordered → List Part → Key → ℕ → ℕ → Type 0
AreSharing o ps x first second =
    (s : IsShared o ps x) × (s.first ≡ first) × (s.second ≡ second)

-- the names that some of the parts know, as often as parts know them
pub record AreNamesOf (o : Ordered) (ps : List Part) (names : List Name) : Type 0 where
  pub has : (x : Name) → Contains names x ↔ Any (λ p. IsTrue (part_knows o (named x) p)) ps
  pub twice : (x : Name) → IsRepeated names x ↔ IsShared o ps (named x)

-- the names that some of the parts know, sorted; no two parts know one
pub record ArePartNames (o : Ordered) (ps : List Part) (names : List (Bor Name)) : Type 0 where
  pub sorted : IsSorted name_ref_cmp names
  pub has : (x : Name)
      → Contains (names_of names) x ↔ Any (λ p. IsTrue (part_knows o (named x) p)) ps
  pub apart : (x : Name) → IsShared o ps (named x) → ⊥

-- whether some part knows the rest; no two parts do
pub record IsRestOf (o : Ordered) (ps : List Part) (takes_rest : Bool) : Type 0 where
  pub has : IsTrue takes_rest ↔ Any (λ p. IsTrue (part_knows o rest p)) ps
  pub apart : IsShared o ps rest → ⊥

-- why parts of a list cannot be chosen together: two of them know one key
abbrev pub IsWhyShared : Ordered → ListId → List Part → Fault → Type 0
IsWhyShared o id ps (NoShape shape) = ⊥
IsWhyShared o id ps (ReadsItself shape) = ⊥
IsWhyShared o id ps (ContainsItself list) = ⊥
IsWhyShared o id ps (NameTwice list name first second) =
    (list_view list ≡ id) × AreSharing o ps (named name.now) first second
IsWhyShared o id ps (TwoCatchAlls list first second) =
    (list_view list ≡ id) × AreSharing o ps rest first second
IsWhyShared o id ps OutOfMemory = ⊤

-- a branch is placed before an index, or has no choice
abbrev pub BranchIsReady : Catalogue → Ordered → ℕ → ListId → Type 0
BranchIsReady shapes o index id =
    MatchOption (index_of o.slots id) (IsChosen shapes id → ⊥) (λ j. j < index)

-- the same of each branch of a part
abbrev pub PartIsReady : Catalogue → Ordered → ℕ → Part → Type 0
PartIsReady shapes o index (a_selection s) = All (BranchIsReady shapes o index) s.branches
PartIsReady shapes o index _ = ⊤

-- a list has a choice and is not placed
abbrev pub IsUnplaced : Catalogue → Ordered → ListId → Type 0
IsUnplaced shapes o id = IsChosen shapes id × (index_of o.slots id ≡ None)

-- each branch of a part is placed, or has no choice
abbrev pub PartIsPlaced : Catalogue → Ordered → Part → Type 0
PartIsPlaced shapes o (a_selection s) = All (λ b. ¬ IsUnplaced shapes o b) s.branches
PartIsPlaced shapes o _ = ⊤

-- a branch of a part has a choice and is not placed
abbrev pub PartIsStuck : Catalogue → Ordered → Part → Type 0
PartIsStuck shapes o (a_selection s) = Any (IsUnplaced shapes o) s.branches
PartIsStuck shapes o _ = ⊥

-- the branches of a list are placed, if they have a choice
abbrev pub IsNext : Catalogue → Ordered → ListId → Type 0
IsNext shapes o id =
    (ps : List Part) → parts_of shapes id ≡ Some ps → All (PartIsPlaced shapes o) ps

-- what is placed is as its type says, behind its branches
pub record IsPlacing (shapes : Catalogue) (o : Ordered) : Type 0 where
  pub placed : (index : ℕ) (l : ListEntry) → slice_get o.lists.items index ≡ Some l
      → IsPlaced shapes o index l
  pub at : (id : ListId) → MatchOption (index_of o.slots id) ⊤ (IsPlacedAt o id)
  pub ready : (index : ℕ) (l : ListEntry) → slice_get o.lists.items index ≡ Some l
      → All (PartIsReady shapes o index) (parts_view l.parts.items)

-- the indices of the lists below parts, each after those of its branches, and then the next index
pub record AreBelow (o : Ordered) (ps : List Part) (below : List ℕ) : Type 0 where
  pub front : List ℕ
  pub below_is : below ≡ front ++ length o.lists.items ∷ []
  pub in_order : (position index : ℕ) → slice_get front position ≡ Some index
      → (l : ListEntry) × (slice_get o.lists.items index ≡ Some l)
      × All (ArePartsBefore o front position) (parts_view l.parts.items)
  pub of_parts : All (ArePartsBefore o front (length front)) ps
  pub rising : IsStrictlyIncreasing below

-- a list is as its type says, and its parts are placed, if they have a choice
pub record IsPlaceable (shapes : Catalogue) (o : Ordered) (id : ListId) (l : ListEntry) : Type 0
  where
    pub is_of : list_view l.id ≡ id
    pub same : parts_of shapes id ≡ Some (parts_view l.parts.items)
    pub distinct : IsDistinct (Chooses (parts_of shapes) id)
    pub known : (x : Key) → IsTrue (knows l x) ↔ IsKnown (Chooses (parts_of shapes) id) x
    pub sorted : IsSorted name_ref_cmp l.names.items
    pub named : All (PartHasBranchNames (parts_of shapes)) l.parts.items
    pub below : AreBelow o (parts_view l.parts.items) l.below.items

-- one more list is placed
pub record IsOneMore (old new : Ordered) (id : ListId) : Type 0 where
  pub entry : ListEntry
  pub lists : new.lists.items ≡ old.lists.items ++ entry ∷ []
  pub is_of : list_view entry.id ≡ id
  pub set : IsSet old.slots id (length old.lists.items) new.slots

-- a list of a number is marked and not placed
pub record IsLeft (every : EveryList) (marks : List Bool) (o : Ordered) (number : ℕ) : Type 0
  where
    pub list : Listed
    pub is_there : slice_get every.lists.items number ≡ Some list
    pub marked : IsMarked marks number
    pub unplaced : index_of o.slots (list_view list.id) ≡ None

-- a list of a number is not left, or a branch of it has a choice and is not placed
abbrev pub IsStuck : Catalogue → EveryList → List Bool → Ordered → ℕ → Type 0
IsStuck shapes every marks o number =
    (left : IsLeft every marks o number)
    → Any (PartIsStuck shapes o) (parts_view left.list.parts.items)

-- what is placed is as its type says and marked, and what is not can be placed
pub record IsPlacedSoFar (shapes : Catalogue) (every : EveryList) (marks : List Bool) (o : Ordered)
    : Type 0 where
  pub placing : IsPlacing shapes o
  pub from_marked : (index : ℕ) (l : ListEntry) → slice_get o.lists.items index ≡ Some l
      → (number : ℕ) × (index_of every.numbers (list_view l.id) ≡ Some number)
      × IsMarked marks number
  pub slots_are : (id : ListId) → IsOfCatalogue shapes id → HasSlot o.slots id

-- how many lists are not placed
abbrev pub unplaced : EveryList → Ordered → ℕ
unplaced every o = count_by (λ l. is_none (index_of o.slots (list_view l.id))) every.lists.items

-- the index of a list is among some, if it is placed
abbrev pub ListIsAmong : Ordered → List ℕ → ListId → Type 0
ListIsAmong o indices id = MatchOption (index_of o.slots id) ⊤ (Contains indices)

-- so is that of each branch of a part
abbrev pub PartIsAmong : Ordered → List ℕ → Part → Type 0
PartIsAmong o indices (a_selection s) = All (ListIsAmong o indices) s.branches
PartIsAmong o indices _ = ⊤

-- what is among some indices is among others
abbrev pub AreStillAmong : List ℕ → List ℕ → Type 0
AreStillAmong old new = (k : ℕ) → Contains old k → Contains new k

-- indices of lists, with those of their branches
abbrev pub AreGathered : Ordered → List ℕ → Type 0
AreGathered o indices =
    (index : ℕ) → Contains indices index
    → (l : ListEntry) × (slice_get o.lists.items index ≡ Some l)
    × All (PartIsAmong o indices) (parts_view l.parts.items)
