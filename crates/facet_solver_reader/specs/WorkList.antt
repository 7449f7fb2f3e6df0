-- What is reached from a root, as far as it is found.
use Rattle.std.specs.Prelude.{◌≡◌, ℕ, ◌<◌, Bool, List, All, Option, Some, length, slice_get, slice_set}
use Rattle.facet_solver_shape.specs.Catalogues.{Catalogue}
use Rattle.facet_solver_reader.specs.declared.end.End as code
use Rattle.facet_solver_reader.specs.declared.tables.every.EveryList.{EveryList}
use Rattle.facet_solver_reader.specs.declared.tables.every.Listed.{Listed}
use Rattle.facet_solver_reader.specs.declared.tables.marks.Marked.{Marked}
use Rattle.facet_solver_reader.specs.declared.tables.marks.Marked.TheVariants.{Shape, List as AList}
use Rattle.facet_solver_reader.specs.declared.tables.reached.Reached.{Reached}
use Rattle.facet_solver_reader.specs.Leads.{EndHas, PartHas}
use Rattle.facet_solver_reader.specs.Marks.{AreAdded, AreChosen, AreMarks, EndIsMarked, PartIsMarked, ShapeIsMarked}
use Rattle.facet_solver_reader.specs.Met.{AreMet, ShapeIsMet, StayMet}
use Rattle.facet_solver_reader.specs.OrderedLists.{AreMarksClosed, BranchIsMarked, IsMarked}
use Rattle.facet_solver_reader.specs.Rules.{End}
use Rattle.facet_solver_reader.specs.Parts.{Part}
use Rattle.facet_solver_reader.specs.Types.{content_at, end_of}
use Rattle.facet_solver_reader.specs.Views.{end_view, parts_view}

-- what shapes come to that are reached, by their indices
abbrev pub Ends : Type 0
Ends = List (Option code.End)

-- the end of a shape is there
abbrev pub HasEnd : Ends → ℕ → Type 0
HasEnd ends id = (e : code.End) × (slice_get ends id ≡ Some (Some e))

-- what an end leads to is there
abbrev pub EndIsReached : Catalogue → EveryList → Reached → End → Type 0
EndIsReached shapes every r e =
    EndHas (HasEnd r.ends.items) (BranchIsMarked shapes every r.marks.lists.items)
    (content_at shapes) e

-- what a part leads to is there
abbrev pub PartIsReached : Catalogue → EveryList → Reached → Part → Type 0
PartIsReached shapes every r p =
    PartHas (HasEnd r.ends.items) (BranchIsMarked shapes every r.marks.lists.items)
    (content_at shapes) p

-- the root is there, each end that is there is as its type says, and what it and the marked lists
-- lead to is there, and nothing that a document does not come to
pub record AreReached (shapes : Catalogue) (every : EveryList) (root : ℕ) (r : Reached) : Type 0
  where
    pub same_length : length r.ends.items ≡ length shapes
    pub root_is_there : root < length shapes → HasEnd r.ends.items root
    pub ends : (id : ℕ) (e : code.End) → slice_get r.ends.items id ≡ Some (Some e)
        → (end_view e ≡ end_of shapes id) × EndIsReached shapes every r (end_view e)
    pub lists : (k : ℕ) (l : Listed) → slice_get every.lists.items k ≡ Some l
        → IsMarked r.marks.lists.items k
        → All (PartIsReached shapes every r) (parts_view l.parts.items)
    pub closed : AreMarksClosed shapes every r.marks.lists.items
    pub sound : (id : ℕ) → HasEnd r.ends.items id → IsMarked r.marks.shapes.items id
    pub met : (strict : Bool) → AreMet shapes every strict root r.marks

-- what a shape or a list leads to is marked, and the shape has its end
abbrev pub IsDone : Catalogue → EveryList → Reached → Marked → Type 0
IsDone shapes every r (Shape id) = HasEnd r.ends.items id
IsDone shapes every r (AList k) =
    (l : Listed) → slice_get every.lists.items k ≡ Some l
    → All (PartIsMarked shapes every r.marks) (parts_view l.parts.items)

-- the root is marked, and what is marked is done up to a position
pub record IsReachedSoFar (shapes : Catalogue) (every : EveryList) (root position : ℕ) (r : Reached)
    : Type 0 where
  pub of_ends : length r.ends.items ≡ length shapes
  pub of_shapes : length r.marks.shapes.items ≡ length shapes
  pub of_lists : length r.marks.lists.items ≡ length every.lists.items
  pub marks : AreMarks r.marks
  pub chosen : AreChosen every r.marks
  pub root_is_marked : ShapeIsMarked r.marks root
  pub ends : (id : ℕ) (e : code.End) → slice_get r.ends.items id ≡ Some (Some e)
      → (end_view e ≡ end_of shapes id) × EndIsMarked shapes every r.marks (end_view e)
  pub done : (q : ℕ) (x : Marked) → q < position → slice_get r.marks.order.items q ≡ Some x
      → IsDone shapes every r x
  pub sound : (id : ℕ) → HasEnd r.ends.items id → IsMarked r.marks.shapes.items id
  pub met : (strict : Bool) → AreMet shapes every strict root r.marks

-- a shape has its end, and what that leads to is marked
pub record IsGoneThrough (shapes : Catalogue) (every : EveryList) (id : ℕ) (old new : Reached)
    : Type 0 where
  pub added : AreAdded every old.marks new.marks
  pub end : code.End
  pub ends : new.ends.items ≡ slice_set old.ends.items id (Some end)
  pub same : end_view end ≡ end_of shapes id
  pub marked : EndIsMarked shapes every new.marks (end_view end)
  pub met : StayMet shapes every old.marks new.marks
      (λ strict root. ShapeIsMet shapes strict root id)
