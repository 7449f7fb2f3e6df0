-- What is known on the way to a place that has no reading, or several.
use Rattle.std.specs.Prelude.{◌≡◌, ◌<◌, ⊤, ℕ, Bool, true, false, All, IfSome, List, Option, Some, None}
use Rattle.std.specs.Prelude.{length, slice_get}
use Rattle.std.specs.Borrow.{Bor}
use Rattle.facet_solver_shape.specs.Names.{Name}
use Rattle.facet_solver_reader.specs.declared.count.Count.{Count}
use Rattle.facet_solver_reader.specs.declared.count.Count.TheVariants.{None as NoCount}
use Rattle.facet_solver_reader.specs.declared.nodes.Nodes.{Nodes}
use Rattle.facet_solver_reader.specs.declared.count.object.Object as code
use Rattle.facet_solver_reader.specs.declared.read_error.Branch.{Branch}
use Rattle.facet_solver_reader.specs.declared.read_error.NoReading.{NoReading}
use Rattle.facet_solver_reader.specs.declared.read_error.Obstacle.TheVariants as obstacle
use Rattle.facet_solver_reader.specs.declared.read_error.Unread.{Unread}
use Rattle.facet_solver_reader.specs.declared.tables.List.{List as ListEntry}
use Rattle.facet_solver_reader.specs.declared.tables.Tables.{Tables}
use Rattle.facet_solver_reader.specs.declared.why.asked.AskedObject.{AskedObject}
use Rattle.facet_solver_reader.specs.declared.why.object.InPart.{InPart}
use Rattle.facet_solver_reader.specs.declared.why.object.InPart.TheVariants as in_part
use Rattle.facet_solver_reader.specs.declared.why.several.Tallied.{Tallied}
use Rattle.facet_solver_reader.specs.declared.why.stop.Inner.{Inner}
use Rattle.facet_solver_reader.specs.declared.why.stop.Inner.TheVariants as inner
use Rattle.facet_solver_reader.specs.declared.why.untagged.Readers.{Readers}
use Rattle.facet_solver_reader.specs.declared.why.untagged.Readers.TheVariants as readers
use Rattle.facet_solver_reader.specs.declared.why.walk.Blamed.{Blamed}
use Rattle.facet_solver_reader.specs.declared.why.walk.Here.{Here}
use Rattle.facet_solver_reader.specs.declared.why.walk.Here.TheVariants.{Stops, Splits}
use Rattle.facet_solver_reader.specs.declared.why.walk.Next.{Next}
use Rattle.facet_solver_reader.specs.declared.why.walk.Next.TheVariants as next
use Rattle.facet_solver_reader.specs.Branches.{ReadsList}
use Rattle.facet_solver_reader.specs.Choices.{Choice, ChoiceAt, Item}
use Rattle.facet_solver_reader.specs.Documents.{Tree, Member}
use Rattle.facet_solver_reader.specs.Given.{IsGiven}
use Rattle.facet_solver_reader.specs.Known.{ChoosesAt, named}
use Rattle.facet_solver_reader.specs.Nodes.{IsNumbering, count, members_in, value_of}
use Rattle.facet_solver_reader.specs.Objects.{find, HasNamed}
use Rattle.facet_solver_reader.specs.Parts.{ListId, MemberPart, Part, Selection, Target, a_member}
use Rattle.facet_solver_reader.specs.Places.{PlaceStep}
use Rattle.facet_solver_reader.specs.Reading.{AreListCounts, IsCount, IsListed, IsNextList}
use Rattle.facet_solver_reader.specs.Reading.{IsObject, object_view}
use Rattle.facet_solver_reader.specs.Readings.{ReadsValue}
use Rattle.facet_solver_reader.specs.Rules.{Rules}
use Rattle.facet_solver_reader.specs.Slots.{index_of}
use Rattle.facet_solver_reader.specs.Tables.{IsServed, ListIsServed, knows, rules_at}
use Rattle.facet_solver_reader.specs.TakenBranches.{TakesBranch, parts_in}
use Rattle.facet_solver_reader.specs.TypeNames.{IsCalled, called_view, target_name}
use Rattle.facet_solver_reader.specs.Views.{list_view, parts_view, target_view}
use Rattle.facet_solver_reader.specs.Wanted.{IsSaidToRead}
use Rattle.facet_solver_reader.specs.Why.{IsOfName, IsRequiredIn, Lacks, IsStop, IsObstacle}
use Rattle.facet_solver_reader.specs.Why.{IsOfPart, IsReadBy, IsReadByBranch}

-- each choice at a part requires the name, and it is no name of the members
pub record PartLacks (rules : Rules) (members : List Member) (p : Part) (x : Name) : Type 0 where
  pub absent : find members x ≡ None
  pub required : (c : ChoiceAt) (items : List Item) → ChoosesAt rules.lists p c items
      → IsRequiredIn (IsOfName x) items

-- what is told of a value is so
abbrev pub IsHere : Rules → Tree → Here → Type 0
IsHere rules v (Stops o) = IsObstacle rules v o
IsHere rules v (Splits branches) = All (IsReadBy rules v) branches.items

-- what is to blame for a value is so: another value has the count as a target, or what is told
abbrev pub IsNext : Tables → Nodes → Count → Tree → Next → Type 0
IsNext t nodes blame v (next.Into n target) =
    (n < count nodes) × IsServed t (target_view target)
    × IsCount t nodes n (target_view target) blame
IsNext t nodes blame v (next.Here here) = IsHere (rules_at t) v here

-- what is found of a part that has no reading is so
abbrev pub IsInPart : Tables → Nodes → Tree → InPart → Type 0
IsInPart t nodes v (in_part.Next n) = IsNext t nodes NoCount v n
IsInPart t nodes v (in_part.Branch position optional) = ⊤

-- what is found of a part of a branch is so
abbrev pub IsInner : Rules → Tree → Inner → Type 0
IsInner rules v (inner.Stop stop) = IsStop rules v stop × IsOfPart stop
IsInner rules v (inner.List position) = ⊤

-- a value is to blame: it has the count as the target, and what is told of it is so
pub record IsBlamed (t : Tables) (nodes : Nodes) (blame : Count) (b : Blamed) : Type 0 where
  pub inside : b.node < count nodes
  pub served : IsServed t (target_view b.target)
  pub counted : IsCount t nodes b.node (target_view b.target) blame
  pub here : IfSome b.here (IsHere (rules_at t) (value_of nodes b.node))

-- a target is told of, what that is called and reads, and what a value is
pub record IsUnreadAs (rules : Rules) (t : Target) (v : Tree) (u : Unread) : Type 0 where
  pub target : target_view u.target ≡ t
  pub name : called_view u.name ≡ target_name rules t
  pub reads : IsSaidToRead rules t v u.reads
  pub given : IsGiven v u.given

-- what is told is a place, and that its value is not what a target reads
pub record IsUnreadAt (rules : Rules) (t : Target) (v : Tree) (place : List PlaceStep)
    (n : NoReading) : Type 0 where
  pub same : n.place ≡ place
  pub unread : (u : Unread) × (n.why ≡ obstacle.Unread u) × IsUnreadAs rules t v u

-- the list whose names are left to others is one of the tables
abbrev pub IsBesides : Tables → Option (Bor ListEntry) → Type 0
IsBesides t besides = IfSome besides (λ l. IsListed t l.now)

-- a list stands at a position among those that the choices of an object's list go through
pub record IsPosition (t : Tables) (o : code.Object) (id : ListId) (position : ℕ) : Type 0 where
  pub index : ℕ
  pub has_index : index_of t.slots id ≡ Some index
  pub stands : slice_get o.list.now.below.items position ≡ Some index

-- a list is one of those that the choices of an object's list go through
abbrev pub IsBelow : Tables → code.Object → ListEntry → Type 0
IsBelow t o l = (position : ℕ) × IsNextList t o position l

-- a list is a branch of a selection
abbrev pub IsBranchOf : Selection → ListId → Type 0
IsBranchOf s id = (k : ℕ) × (slice_get s.branches k ≡ Some id)

-- a name is that of a member, and a list has none of it
pub record IsAmong (l : ListEntry) (members : List Member) (x : Name) : Type 0 where
  pub has : HasNamed members x
  pub unknown : knows l (named x) ≡ false

-- a list begins with a required member with a property
pub record BeginsWith (l : ListEntry) (P : MemberPart → Type 0) : Type 0 where
  pub member : MemberPart
  pub first : slice_get (parts_view l.parts.items) 0 ≡ Some (a_member member)
  pub required : member.required ≡ true
  pub is : P member

-- a part is one of a list
abbrev pub IsPartOf : ListEntry → Part → Type 0
IsPartOf l p = (k : ℕ) × (slice_get (parts_view l.parts.items) k ≡ Some p)

-- names are told of lists by their positions: each choice of the list requires it, and the object
-- lacks it
pub record AreMissing (t : Tables) (nodes : Nodes) (o : code.Object)
    (names : List (Option (Bor Name))) : Type 0 where
  pub are : (position index : ℕ) (name : Bor Name) (l : ListEntry)
      → slice_get names position ≡ Some (Some name)
      → slice_get o.list.now.below.items position ≡ Some index
      → slice_get t.lists.items index ≡ Some l
      → Lacks (rules_at t) (members_in (value_of nodes o.node)) (list_view l.id) name.now

-- an object has a reading by a list, and each branch that such a reading takes reads its value
pub record IsTakenList (t : Tables) (nodes : Nodes) (o : code.Object) (id : ListId) : Type 0 where
  pub choice : Choice
  pub reads : ReadsList (rules_at t) (ReadsValue (rules_at t)) (object_view nodes o) id choice
  pub within : (c : Choice) (branch : ListId)
      → ReadsList (rules_at t) (ReadsValue (rules_at t)) (object_view nodes o) id c
      → TakesBranch (rules_at t).lists c (parts_in (rules_at t).lists id) branch
      → IsReadByBranch (rules_at t) (value_of nodes o.node) branch

-- a part is one of a list by which an object is read
pub record IsTakenPart (t : Tables) (nodes : Nodes) (o : code.Object) (p : Part) : Type 0 where
  pub list : ListEntry
  pub listed : IsListed t list
  pub taken : IsTakenList t nodes o (list_view list.id)
  pub part : IsPartOf list p

-- a branch reads an object, and so does its list
pub record IsTakenBranch (t : Tables) (nodes : Nodes) (o : code.Object) (b : Branch) : Type 0 where
  pub served : ListIsServed t (list_view b.list)
  pub called : IsCalled (rules_at t) b
  pub taken : IsTakenList t nodes o (list_view b.list)
  pub reads : IsReadByBranch (rules_at t) (value_of nodes o.node) (list_view b.list)

-- an object is read by each list whose position is marked
pub record AreTakenLists (t : Tables) (nodes : Nodes) (o : code.Object) (marks : List Bool)
    : Type 0 where
  pub are : (position index : ℕ) (l : ListEntry) → slice_get marks position ≡ Some true
      → slice_get o.list.now.below.items position ≡ Some index
      → slice_get t.lists.items index ≡ Some l → IsTakenList t nodes o (list_view l.id)

-- what is known of an object and its lists is so
pub record IsAsked (t : Tables) (nodes : Nodes) (a : AskedObject) : Type 0 where
  pub numbering : IsNumbering nodes
  pub object : IsObject t nodes a.object
  pub counts : AreListCounts t nodes a.object a.counts.items
  pub each : length a.counts.items ≡ length a.object.list.now.below.items
  pub missing : AreMissing t nodes a.object a.missing.items

-- an object of a value, as it is read by its list, and the counts of the lists that the choices of
-- that go through
pub record IsTallied (t : Tables) (nodes : Nodes) (node : ℕ) (o : Tallied) : Type 0 where
  pub numbering : IsNumbering nodes
  pub object : IsObject t nodes o.object
  pub same : o.object.node ≡ node
  pub counts : AreListCounts t nodes o.object o.counts.items
  pub each : length o.counts.items ≡ length o.object.list.now.below.items
  pub taken : IsTakenList t nodes o.object (list_view o.object.list.now.id)

-- the one index that is told is below a number
abbrev pub IsWithin : ℕ → Readers → Type 0
IsWithin n (readers.One index) = index < n
IsWithin n _ = ⊤
