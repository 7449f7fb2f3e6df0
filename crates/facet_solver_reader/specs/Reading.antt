-- What is given where readings are counted: tables, numbered values, and counts that are known.
use Rattle.std.specs.Prelude.{◌≡◌, ◌↔◌, ◌<◌, ◌+◌, ℕ, Bool, true, false, not, All, IsTrue, List, [], ◌∷◌, Option, Some, None, slice_get}
use Rattle.std.specs.Str.{bytes_eq}
use Rattle.facet_solver_reader.specs.Reached.{IsRanked, asked_by_kind}
use Rattle.facet_solver_reader.specs.Counted.{Counted}
use Rattle.facet_solver_reader.specs.Rules as types
use Rattle.facet_solver_reader.specs.Rules.{Alternative, AlternativeKind, Rules}
use Rattle.facet_solver_reader.specs.Branches.{ReadsAt, ReadsList, ReadsPart}
use Rattle.facet_solver_reader.specs.Choices.{ChoiceAt}
use Rattle.facet_solver_reader.specs.declared.count.Count.{Count}
use Rattle.facet_solver_reader.specs.declared.nodes.Nodes.{Nodes}
use Rattle.facet_solver_reader.specs.declared.count.memo.MemoEntry.{MemoEntry}
use Rattle.facet_solver_reader.specs.declared.count.object.Object as code
use Rattle.facet_solver_reader.specs.declared.tables.Tables.{Tables}
use Rattle.facet_solver_reader.specs.declared.tables.List.{List as ListEntry}
use Rattle.facet_solver_reader.specs.Documents.{Tree, object, text, Member, Members, view}
use Rattle.facet_solver_reader.specs.declared.document.Document.{Document}
use Rattle.facet_solver_shape.specs.Names.{Name}
use Rattle.std.specs.Borrow.{Bor}
use Rattle.facet_solver_reader.specs.Memo.{IsNoted}
use Rattle.facet_solver_reader.specs.NameFilters.{HoldsNames}
use Rattle.facet_solver_reader.specs.Nodes.{count, members_in, value_of, IsNumbering}
use Rattle.facet_solver_reader.specs.Objects.{find, HasUnknown, Object}
use Rattle.facet_solver_reader.specs.Parts.{MemberPart, Part, a_member, Target, of_tag}
use Rattle.facet_solver_reader.specs.Readings.{ReadsValue}
use Rattle.facet_solver_reader.specs.Tables.{AreTables, rules_at}
use Rattle.facet_solver_reader.specs.Views.{list_view}

-- a member in memory
abbrev pub member_view : Bor Name × Document → Member
member_view m = record { name = m.0.now; value = view m.1 }

-- the count of the readings of a numbered value as a target
abbrev pub IsCount : Tables → Nodes → ℕ → Target → Count → Type 0
IsCount t nodes node target count =
    Counted (ReadsValue (rules_at t) target (value_of nodes node)) count

-- the tables are of a type, and each count that is known is right
pub record AreSound (t : Tables) (nodes : Nodes) (entries : List MemoEntry) : Type 0 where
  pub tables : AreTables t
  pub numbering : IsNumbering nodes
  pub counts : (node : ℕ) (target : Target) (count : Count) → IsNoted entries node target count
      → IsCount t nodes node target count

-- an object of the document, with the name of its list
abbrev pub object_view : Nodes → code.Object → Object
object_view nodes o =
    record {
      members = members_in (value_of nodes o.node);
      list = list_view o.list.now.id;
      takes = o.takes;
    }

-- an object is one of the document, its list is one of the tables, whether it has a member of no
-- known name is told right, and so is which names it lacks
pub record IsObject (t : Tables) (nodes : Nodes) (o : code.Object) : Type 0 where
  pub inside : o.node < count nodes
  pub index : ℕ
  pub listed : slice_get t.lists.items index ≡ Some o.list.now
  pub unknown : IsTrue o.has_unknown ↔ HasUnknown (rules_at t) (object_view nodes o)
  pub filter : HoldsNames (members_in (value_of nodes o.node)) o.filter

-- the count of the readings of an object by a list
abbrev pub IsListCount : Tables → Nodes → code.Object → ListEntry → Count → Type 0
IsListCount t nodes o l count =
    Counted (ReadsList (rules_at t) (ReadsValue (rules_at t)) (object_view nodes o) (list_view l.id))
    count

-- the first lists that the choices of an object's list go through have these counts
pub record AreListCounts (t : Tables) (nodes : Nodes) (o : code.Object) (counts : List Count)
    : Type 0 where
  pub are : (position index : ℕ) (count : Count) (l : ListEntry)
      → slice_get counts position ≡ Some count
      → slice_get o.list.now.below.items position ≡ Some index
      → slice_get t.lists.items index ≡ Some l → IsListCount t nodes o l count

-- a list is the next of those that the choices of an object's list go through
pub record IsNextList (t : Tables) (o : code.Object) (position : ℕ) (l : ListEntry) : Type 0 where
  pub index : ℕ
  pub is_next : slice_get o.list.now.below.items position ≡ Some index
  pub listed : slice_get t.lists.items index ≡ Some l

-- what an alternative asks of the same value is ranked lower than so many steps
abbrev pub IsRankedAlternative : Rules → ℕ → Alternative → Type 0
IsRankedAlternative rules steps a =
    (n : ℕ) × (steps ≡ n + 1) × All (IsRanked n rules) (asked_by_kind a.kind a.content)

-- whether an alternative of a kind reads a value as its content, and is no fallback, by whether
-- another reads the value as a whole number
abbrev pub reads_content : AlternativeKind → Bool → Bool
reads_content (types.a_whole range) whole = true
reads_content types.a_float whole = not whole
reads_content types.other whole = true
reads_content _ whole = false

-- a list is one of the tables
pub record IsListed (t : Tables) (l : ListEntry) : Type 0 where
  pub index : ℕ
  pub listed : slice_get t.lists.items index ≡ Some l

-- the count of the readings of an object by one part
abbrev pub IsPartCount : Tables → Nodes → code.Object → Part → Count → Type 0
IsPartCount t nodes o p count =
    Counted (ReadsPart (rules_at t) (ReadsValue (rules_at t)) (object_view nodes o) p) count

-- the count of the readings by a selection that choose its k-th branch
abbrev pub IsBranchCount : (ChoiceAt → Type 0) → ℕ → Count → Type 0
IsBranchCount reads k count = Counted (ReadsAt reads k) count

-- whether a value is not the text of a tag, where the target is one
abbrev pub is_other_tag : Target → Tree → Bool
is_other_tag (of_tag name) (text x) = not (bytes_eq x name)
is_other_tag (of_tag name) _ = true
is_other_tag _ _ = false

-- whether an object cannot be read by a member, whatever its value is: it is required and missing, or
-- a tag of another text
abbrev pub fails_for : MemberPart → Option Tree → Bool
fails_for m None = m.required
fails_for m (Some v) = is_other_tag m.target v

-- the same of a part
abbrev pub fails_at_once : List Member → Part → Bool
fails_at_once ms (a_member m) = fails_for m (find ms m.name)
fails_at_once ms _ = false

-- a value is an object whose only member has the name
pub record IsOnlyMember (v : Tree) (name : Name) : Type 0 where
  pub members : Members
  pub is_object : v ≡ object members
  pub value : Tree
  pub only : members_in v ≡ record { name = name; value = value } ∷ []
