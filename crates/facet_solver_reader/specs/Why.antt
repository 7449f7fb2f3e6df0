-- What is told of a document that has no reading, or several.
use Rattle.std.specs.Prelude.{◌≡◌, ◌≢◌, ◌⊎◌, ⊤, ℕ, All, IfSome, IsTrue, List, [], ◌∷◌, Option, Some, None}
use Rattle.std.specs.Prelude.{slice_get}
use Rattle.facet_solver_shape.specs.Names.{Name}
use Rattle.facet_solver_reader.specs.declared.count.Count.TheVariants.{None as NoCount}
use Rattle.facet_solver_reader.specs.declared.nodes.DocumentError.{DocumentError}
use Rattle.facet_solver_reader.specs.declared.nodes.DocumentError.TheVariants as documents
use Rattle.facet_solver_reader.specs.declared.read_error.Branch.{Branch}
use Rattle.facet_solver_reader.specs.declared.read_error.Misfit.{Misfit}
use Rattle.facet_solver_reader.specs.declared.read_error.NoReading.{NoReading}
use Rattle.facet_solver_reader.specs.declared.read_error.Obstacle.{Obstacle}
use Rattle.facet_solver_reader.specs.declared.read_error.Obstacle.TheVariants as obstacle
use Rattle.facet_solver_reader.specs.declared.read_error.ReadError.{ReadError}
use Rattle.facet_solver_reader.specs.declared.read_error.ReadError.TheVariants as errors
use Rattle.facet_solver_reader.specs.declared.read_error.Several.{Several}
use Rattle.facet_solver_reader.specs.declared.read_error.Stop.{Stop}
use Rattle.facet_solver_reader.specs.declared.read_error.Stop.TheVariants.{Nothing}
use Rattle.facet_solver_reader.specs.declared.read_error.Stop.TheVariants.{Member as AtMember}
use Rattle.facet_solver_reader.specs.declared.read_error.Stop.TheVariants.{OneOf, Itself}
use Rattle.facet_solver_reader.specs.declared.read_error.Unread.{Unread}
use Rattle.facet_solver_reader.specs.Branches.{Misfits}
use Rattle.facet_solver_reader.specs.Choices.{Choice, Item, member_of, catch_all_of}
use Rattle.facet_solver_reader.specs.Choices.{presence_of, Reading}
use Rattle.facet_solver_reader.specs.Counted.{AreTwo, Counted}
use Rattle.facet_solver_reader.specs.Documents.{Tree, Member, text}
use Rattle.facet_solver_reader.specs.declared.read_error.given.Given.{Given}
use Rattle.facet_solver_reader.specs.Given.{IsGiven}
use Rattle.facet_solver_reader.specs.Kinds.{is_object}
use Rattle.facet_solver_reader.specs.Known.{Chooses, IsKnown, Key, named, rest}
use Rattle.facet_solver_reader.specs.Nodes.{members_in}
use Rattle.facet_solver_reader.specs.Objects.{find, HasNamed, IsUnknown, Object, ReadsObject}
use Rattle.facet_solver_reader.specs.Parts.{ListId, Selection, Target, of_shape}
use Rattle.facet_solver_reader.specs.Parts.{of_content, of_struct, of_enum, of_joined, of_branch}
use Rattle.facet_solver_reader.specs.Parts.{MemberPart, of_fields, of_tag}
use Rattle.facet_solver_reader.specs.Places.{IsNameTwice, at}
use Rattle.facet_solver_reader.specs.Readings.{ReadsValue}
use Rattle.facet_solver_reader.specs.Rules.{Rules}
use Rattle.facet_solver_reader.specs.TakenBranches.{TakesBranch, parts_in}
use Rattle.facet_solver_reader.specs.TypeNames.{IsCalled, called_view, target_name}
use Rattle.facet_solver_reader.specs.Views.{list_view, target_view}
use Rattle.facet_solver_reader.specs.Wanted.{IsSaidToRead}

-- some item is a required member with a property
abbrev pub IsRequiredIn : (MemberPart → Type 0) → List Item → Type 0
IsRequiredIn P [] = ⊥
IsRequiredIn P (member_of m r ∷ items) = (IsTrue m.required × P m) ⊎ IsRequiredIn P items
IsRequiredIn P (catch_all_of k t ∷ items) = IsRequiredIn P items
IsRequiredIn P (presence_of s ∷ items) = IsRequiredIn P items

-- each choice of a list requires a member with a property
abbrev pub Requires : Rules → ListId → (MemberPart → Type 0) → Type 0
Requires rules id P = (c : Choice) (items : List Item) → Chooses rules.lists id c items
    → IsRequiredIn P items

-- a member has the name
abbrev pub IsOfName : Name → MemberPart → Type 0
IsOfName x m = m.name ≡ x

-- a member has the name, and only the text of a tag is read there
abbrev pub IsTagOf : Name → Name → MemberPart → Type 0
IsTagOf x tag m = (m.name ≡ x) × (m.target ≡ of_tag tag)

-- each choice of a list requires the name, and it is no name of the members
pub record Lacks (rules : Rules) (members : List Member) (id : ListId) (x : Name) : Type 0 where
  pub absent : find members x ≡ None
  pub required : Requires rules id (IsOfName x)

-- each choice of a list requires the text of a tag as the name, and the members don't have it there
pub record LacksTag (rules : Rules) (members : List Member) (id : ListId) (x : Name) : Type 0 where
  pub tag : Name
  pub other : find members x ≢ Some (text tag)
  pub required : Requires rules id (IsTagOf x tag)

-- each choice of a branch requires the text of a tag, which members don't have, and it is told by
-- its name
abbrev pub IsWithoutTag : Rules → List Member → Name → Branch → Type 0
IsWithoutTag rules members x b =
    IsCalled rules b × LacksTag rules members (list_view b.list) x

-- what members have of a name: none, or a value that is told
abbrev pub StandsAt : List Member → Name → Option Given → Type 0
StandsAt members x None = find members x ≡ None
StandsAt members x (Some given) =
    (v : Tree) × (find members x ≡ Some v) × IsGiven v given

-- the members have the name, and some choice of a list has a member of it
pub record IsMemberOf (rules : Rules) (members : List Member) (id : ListId) (x : Name)
    : Type 0 where
  pub has : HasNamed members x
  pub known : IsKnown (Chooses rules.lists id) (named x)

-- a key is that of the name, or it is the rest, to which the unknown name belongs
abbrev pub IsKeyOf : Rules → Object → Key → Name → Type 0
IsKeyOf rules object (named y) x = y ≡ x
IsKeyOf rules object rest x = IsUnknown rules object x

-- an object with these members has the name, a selection knows its key, and one branch doesn't
pub record IsNoKey (rules : Rules) (members : List Member) (id : ListId) (x : Name) : Type 0 where
  pub has : HasNamed members x
  pub object : Object
  pub same : object.members ≡ members
  pub selection : Selection
  pub branch : (k : ℕ) × (slice_get selection.branches k ≡ Some id)
  pub misfit : Misfits rules object selection id
  pub key : IsKeyOf rules object misfit.key x

-- a value has no reading as a target
abbrev pub IsUnread : Rules → Target → Tree → Type 0
IsUnread rules t v = Counted (ReadsValue rules t v) NoCount

-- what is told of a value that is not read: it has no reading as the target, what that is called
-- and reads, and what the value is
pub record IsToldUnread (rules : Rules) (v : Tree) (u : Unread) : Type 0 where
  pub unread : IsUnread rules (target_view u.target) v
  pub name : called_view u.name ≡ target_name rules (target_view u.target)
  pub reads : IsSaidToRead rules (target_view u.target) v u.reads
  pub given : IsGiven v u.given

-- what is told of a part of a variant: a member's value is not read, or the value itself
abbrev pub IsStop : Rules → Tree → Stop → Type 0
IsStop rules v (AtMember x unread) =
    (w : Tree) × (find (members_in v) x.now ≡ Some w) × IsToldUnread rules w unread
IsStop rules v Nothing = ⊤
IsStop rules v (OneOf x) = ⊤
IsStop rules v (Itself unread) = IsToldUnread rules v unread

-- what a variant reads by itself
abbrev pub content_of : ListId → Target
content_of (of_struct id) = of_shape id
content_of (of_enum id) = of_shape id
content_of (of_joined id) = of_shape id
content_of (of_branch id k) = of_content id k
content_of (of_fields id k) = of_content id k

-- where the value itself is told to be not read, it is as the content of the variant
abbrev pub IsOfBranch : Branch → Stop → Type 0
IsOfBranch b (Itself unread) = target_view unread.target ≡ content_of (list_view b.list)
IsOfBranch b _ = ⊤

-- what is told is of a part of a value
abbrev pub IsOfPart : Stop → Type 0
IsOfPart (Itself unread) = ⊥
IsOfPart _ = ⊤

-- what is told of a variant that does not fit, by its name: it lacks a name, has no key of a name,
-- or a part of it is not read
pub record IsMisfit (rules : Rules) (v : Tree) (m : Misfit) : Type 0 where
  pub called : IsCalled rules m.branch
  pub lacks : IfSome m.lacks
      (λ x. Lacks rules (members_in v) (list_view m.branch.list) x.now)
  pub no_key : IfSome m.no_key
      (λ x. IsNoKey rules (members_in v) (list_view m.branch.list) x.now)
  pub stop : IsStop rules v m.stop
  pub of_branch : IsOfBranch m.branch m.stop

-- what is told of a value that has no reading
abbrev pub IsObstacle : Rules → Tree → Obstacle → Type 0
IsObstacle rules v (obstacle.Unread unread) = IsToldUnread rules v unread
IsObstacle rules v (obstacle.Lacks branch x) =
    IsCalled rules branch × Lacks rules (members_in v) (list_view branch.list) x.now
IsObstacle rules v (obstacle.Incomplete x block y) =
    IsCalled rules block × IsMemberOf rules (members_in v) (list_view block.list) x.now
    × Lacks rules (members_in v) (list_view block.list) y.now
IsObstacle rules v (obstacle.NoVariant of misfits) = All (IsMisfit rules v) misfits.items
IsObstacle rules v (obstacle.NoTag x given branches) =
    StandsAt (members_in v) x.now given
    × All (IsWithoutTag rules (members_in v) x.now) branches.items
IsObstacle rules v _ = ⊤

-- a value is an object that has a reading by a list, and that takes the branch
pub record IsReadByBranch (rules : Rules) (v : Tree) (id : ListId) : Type 0 where
  pub is_object : IsTrue (is_object v)
  pub list : ListId
  pub choice : Choice
  pub reads : ReadsObject rules (ReadsValue rules) list (members_in v) choice
  pub takes : TakesBranch rules.lists choice (parts_in rules.lists list) id

-- a variant reads a value, an object by its parts or the value as its content, and it is told by
-- its name
abbrev pub IsReadBy : Rules → Tree → Branch → Type 0
IsReadBy rules v b =
    IsCalled rules b
    × (IsReadByBranch rules v (list_view b.list)
    ⊎ ((r : Reading) × ReadsValue rules (content_of (list_view b.list)) v r))

-- a document has no reading for what is told of the value at a place of it
pub record IsWhyNone (rules : Rules) (document : Tree) (n : NoReading) : Type 0 where
  pub value : Tree
  pub leads : at document n.place ≡ Some value
  pub why : IsObstacle rules value n.why

-- the variants that are told read the value at a place of a document
pub record IsWhySeveral (rules : Rules) (document : Tree) (s : Several) : Type 0 where
  pub value : Tree
  pub leads : at document s.place ≡ Some value
  pub variants : All (IsReadBy rules value) s.variants.items

-- what is said of a document that has no numbering
abbrev pub error_of : DocumentError → ReadError
error_of (documents.NameTwice place) = errors.NameTwice place
error_of documents.OutOfMemory = errors.OutOfMemory

-- why a document is not read as a target: it has no reading, or two, and why, a name stands twice,
-- where it does, or memory was refused
abbrev pub IsWhyNot : Rules → Target → Tree → ReadError → Type 0
IsWhyNot rules t v (errors.NoReading n) = IsUnread rules t v × IsWhyNone rules v n
IsWhyNot rules t v (errors.Several s) = AreTwo (ReadsValue rules t v) × IsWhySeveral rules v s
IsWhyNot rules t v (errors.NameTwice place) = IsNameTwice v place
IsWhyNot rules t v errors.OutOfMemory = ⊤
