-- The branch by which an object is read.
use Rattle.std.specs.Prelude.{◌≡◌, ◌⊎◌, ℕ, Option, Some, None, slice_get}
use Rattle.facet_solver_reader.specs.declared.count.Count.TheVariants.{One}
use Rattle.facet_solver_reader.specs.declared.nodes.Nodes.{Nodes}
use Rattle.facet_solver_reader.specs.declared.count.object.Object as read
use Rattle.facet_solver_reader.specs.declared.tables.List.{List as ListEntry}
use Rattle.facet_solver_reader.specs.declared.tables.Tables.{Tables}
use Rattle.facet_solver_reader.specs.Known.{Chooses, HasChoice}
use Rattle.facet_solver_reader.specs.Branches.{CanBePresent, Fits, ReadsPart}
use Rattle.facet_solver_reader.specs.Choices.{Choice, ChoiceAt, choosing, without}
use Rattle.facet_solver_reader.specs.Parts.{ListId, Selection, a_selection}
use Rattle.facet_solver_reader.specs.Reading.{IsPartCount, object_view}
use Rattle.facet_solver_reader.specs.Readings.{ReadsValue}
use Rattle.facet_solver_reader.specs.Slots.{index_of}
use Rattle.facet_solver_reader.specs.Tables.{rules_at}
use Rattle.facet_solver_reader.specs.Views.{list_view}
use Rattle.facet_solver_reader.specs.Tells.{TellsNothing}

-- an object is read by a selection as chosen
abbrev pub ReadsChosen : Tables → Nodes → read.Object → Selection → ChoiceAt → Type 0
ReadsChosen t nodes o s a =
    ReadsPart (rules_at t) (ReadsValue (rules_at t)) (object_view nodes o) (a_selection s) a

-- an object is read without a selection, or by the branch of an index
abbrev pub IsChosen : Tables → Nodes → read.Object → Selection → Option ℕ → Type 0
IsChosen t nodes o s None = ReadsChosen t nodes o s without
IsChosen t nodes o s (Some k) = (c : Choice) × ReadsChosen t nodes o s (choosing k c)

-- an object is read by no branch of a selection but the one of an index
abbrev pub IsAlone : Tables → Nodes → read.Object → Selection → ℕ → Type 0
IsAlone t nodes o s k = (j : ℕ) (c : Choice) → ReadsChosen t nodes o s (choosing j c) → j ≡ k

-- the list of a branch has something to tell, and each key of the object that the selection knows
pub record IsSure (t : Tables) (nodes : Nodes) (o : read.Object) (s : Selection) (id : ListId)
    : Type 0 where
  pub list : ListEntry
  pub index : ℕ
  pub is_at : index_of t.slots id ≡ Some index
  pub listed : slice_get t.lists.items index ≡ Some list
  pub same : list_view list.id ≡ id
  pub tells : TellsNothing t list → ⊥
  pub fits : Fits (rules_at t) (object_view nodes o) s id

-- an object is read by the branch of an index or by none; by that it is read once if its members
-- are, or it is known to be read once
pub record IsPickedBranch (t : Tables) (nodes : Nodes) (o : read.Object) (s : Selection) (k : ℕ)
    : Type 0 where
  pub present : CanBePresent (rules_at t) (object_view nodes o) s
  pub alone : IsAlone t nodes o s k
  pub branch : ListId
  pub branch_is : slice_get s.branches k ≡ Some branch
  pub chosen : HasChoice (Chooses (rules_at t).lists branch)
  pub sure : IsSure t nodes o s branch ⊎ IsPartCount t nodes o (a_selection s) One

-- an object is read without a selection and in no other way, or so by the branch of an index
abbrev pub IsPicked : Tables → Nodes → read.Object → Selection → Option ℕ → Type 0
IsPicked t nodes o s None =
    ReadsChosen t nodes o s without × IsPartCount t nodes o (a_selection s) One
IsPicked t nodes o s (Some k) = IsPickedBranch t nodes o s k
