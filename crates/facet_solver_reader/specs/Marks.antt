-- The shapes and lists that are marked.
use Rattle.std.specs.Prelude.{◌≡◌, ℕ, ◌+◌, ◌<◌, Bool, false, IsTrue, List, [], Some, replicate, length, slice_get, count_by}
use Rattle.facet_solver_shape.specs.Catalogues.{Catalogue}
use Rattle.facet_solver_reader.specs.declared.tables.every.EveryList.{EveryList}
use Rattle.facet_solver_reader.specs.declared.tables.every.Listed.{Listed}
use Rattle.facet_solver_reader.specs.declared.tables.marks.Marked.{Marked}
use Rattle.facet_solver_reader.specs.declared.tables.marks.Marked.TheVariants.{Shape, List as AList}
use Rattle.facet_solver_reader.specs.declared.tables.marks.Marks.{Marks}
use Rattle.facet_solver_reader.specs.Leads.{ContentHas, EndHas, PartHas, TargetHas}
use Rattle.facet_solver_reader.specs.OrderedLists.{IsMarked}
use Rattle.facet_solver_reader.specs.Parts.{ListId, Part, Target}
use Rattle.facet_solver_reader.specs.Rules.{Content, End}
use Rattle.facet_solver_reader.specs.Slots.{index_of}
use Rattle.facet_solver_reader.specs.Types.{content_at}

-- something is in a list
abbrev pub IsIn : List Marked → Marked → Type 0
IsIn xs x = (q : ℕ) × (slice_get xs q ≡ Some x)

-- how many are marked
abbrev pub marked_of : List Bool → ℕ
marked_of marks = count_by (λ b. b) marks

-- something is marked
abbrev pub IsMarkedIn : Marks → Marked → Type 0
IsMarkedIn m (Shape id) = IsMarked m.shapes.items id
IsMarkedIn m (AList k) = IsMarked m.lists.items k

-- what is marked stands in the order, and once
pub record AreMarks (m : Marks) : Type 0 where
  pub shape_in : (id : ℕ) → IsMarked m.shapes.items id → IsIn m.order.items (Shape id)
  pub list_in : (k : ℕ) → IsMarked m.lists.items k → IsIn m.order.items (AList k)
  pub of_order : (q : ℕ) (x : Marked) → slice_get m.order.items q ≡ Some x → IsMarkedIn m x
  pub counted : length m.order.items ≡ marked_of m.shapes.items + marked_of m.lists.items

-- what is marked stays so, and so does its place in the order
pub record AreKept (old new : Marks) : Type 0 where
  pub shapes : length new.shapes.items ≡ length old.shapes.items
  pub lists : length new.lists.items ≡ length old.lists.items
  pub of_shapes : (id : ℕ) → IsMarked old.shapes.items id → IsMarked new.shapes.items id
  pub of_lists : (k : ℕ) → IsMarked old.lists.items k → IsMarked new.lists.items k
  pub order : (q : ℕ) (x : Marked) → slice_get old.order.items q ≡ Some x
      → slice_get new.order.items q ≡ Some x
  pub marks : AreMarks old → AreMarks new

-- each list that is marked has a choice
abbrev pub AreChosen : EveryList → Marks → Type 0
AreChosen every m =
    (k : ℕ) (l : Listed) → slice_get every.lists.items k ≡ Some l
    → IsMarked m.lists.items k → IsTrue l.has_choice

-- the same, and lists that are newly marked have a choice
pub record AreAdded (every : EveryList) (old new : Marks) : Type 0 where
  pub kept : AreKept old new
  pub chosen : AreChosen every old → AreChosen every new

-- a shape is marked, if there is a mark for it
abbrev pub ShapeIsMarked : Marks → ℕ → Type 0
ShapeIsMarked m id = id < length m.shapes.items → IsMarked m.shapes.items id

-- a list is marked, if there is a mark for it
abbrev pub NumberIsMarked : Marks → ℕ → Type 0
NumberIsMarked m k = k < length m.lists.items → IsMarked m.lists.items k

-- the list of a number has a choice
pub record HasChoiceAt (every : EveryList) (k : ℕ) : Type 0 where
  pub list : Listed
  pub is_there : slice_get every.lists.items k ≡ Some list
  pub chosen : IsTrue list.has_choice

-- a list of a name is marked, if it has a number and a choice
abbrev pub ListIsMarked : EveryList → Marks → ListId → Type 0
ListIsMarked every m id =
    (k : ℕ) → index_of every.numbers id ≡ Some k → HasChoiceAt every k → NumberIsMarked m k

-- what content leads to is marked
abbrev pub ContentIsMarked : EveryList → Marks → Content → Type 0
ContentIsMarked every m c = ContentHas (ShapeIsMarked m) (ListIsMarked every m) c

-- what a target leads to is marked
abbrev pub TargetIsMarked : Catalogue → EveryList → Marks → Target → Type 0
TargetIsMarked shapes every m t =
    TargetHas (ShapeIsMarked m) (ListIsMarked every m) (content_at shapes) t

-- what an end leads to is marked
abbrev pub EndIsMarked : Catalogue → EveryList → Marks → End → Type 0
EndIsMarked shapes every m e =
    EndHas (ShapeIsMarked m) (ListIsMarked every m) (content_at shapes) e

-- what a part leads to is marked
abbrev pub PartIsMarked : Catalogue → EveryList → Marks → Part → Type 0
PartIsMarked shapes every m p =
    PartHas (ShapeIsMarked m) (ListIsMarked every m) (content_at shapes) p

-- nothing is marked, of so many shapes and lists
pub record AreNoMarks (shapes lists : ℕ) (m : Marks) : Type 0 where
  pub of_shapes : m.shapes.items ≡ replicate shapes false
  pub of_lists : m.lists.items ≡ replicate lists false
  pub order : m.order.items ≡ []
