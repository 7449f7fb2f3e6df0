-- Objects that two branches of a selection read.
use Rattle.std.specs.Prelude.{◌≡◌, ℕ, Bool, true, Some, slice_get, List}
use Rattle.facet_solver_shape.specs.Names.{Name}
use Rattle.facet_solver_reader.specs.Branches.{ReadsPart}
use Rattle.facet_solver_reader.specs.Choices.{Choice, Item, choosing}
use Rattle.facet_solver_reader.specs.Known.{Chooses, HasKey, IsKnown, Key, named, rest}
use Rattle.facet_solver_reader.specs.Objects.{Agrees, HasNamed, Object, Reads, Touches}
use Rattle.facet_solver_reader.specs.Parts.{ListId, Selection, a_selection}
use Rattle.facet_solver_reader.specs.Plans.{IsNumberOfList, Meaning}
use Rattle.facet_solver_reader.specs.Rules.{Rules}
use Rattle.facet_solver_reader.specs.Values.{ReadsDown}
use Rattle.facet_solver_checker.specs.declared.apart.Apart.{Apart}
use Rattle.facet_solver_checker.specs.Aparts.{LeavesAll}
use Rattle.facet_solver_checker.specs.Inners.{IsThrough}

-- one object is read by two branches of a selection, whatever list it is read by, and whether
-- catch-alls take its members of no known name
pub record BranchesMeet (rules : Rules) (reads : Reads) (s : Selection) (j k : ℕ) : Type 0 where
  pub object : Object
  pub first_choice : Choice
  pub second_choice : Choice
  pub first_reads : ReadsPart rules reads object (a_selection s) (choosing j first_choice)
  pub second_reads : ReadsPart rules reads object (a_selection s) (choosing k second_choice)

-- the object has a member that the selection knows, if it must
abbrev pub MustTouch : Bool → Rules → Object → Selection → Type 0
MustTouch must rules object s = must ≡ true → Touches rules object s

-- no object is read by two branches of a selection, by their lists, however deep it nests
abbrev pub NoneMeet : Rules → Selection → Bool → ListId → ListId → Type 0
NoneMeet rules s must a b =
    (d j k : ℕ) → slice_get s.branches j ≡ Some a → slice_get s.branches k ≡ Some b
    → (meet : BranchesMeet rules (ReadsDown rules d) s j k) → MustTouch must rules meet.object s
    → ⊥

-- the same by the numbers of two lists
abbrev pub AreApartIn : Meaning → Bool → ℕ → ℕ → Type 0
AreApartIn m must first second =
    (s : Selection) (a b : ListId) → IsNumberOfList m a first → IsNumberOfList m b second
    → NoneMeet m.rules s must a b

-- what a choice of a list has is as an object has it
pub record AgreesBy (rules : Rules) (reads : Reads) (object : Object) (id : ListId) : Type 0 where
  pub choice : Choice
  pub items : List Item
  pub chooses : Chooses rules.lists id choice items
  pub agrees : Agrees rules reads object items

-- one object is as choices of two lists have it, and both have its member of a name
pub record BothHave (rules : Rules) (reads : Reads) (a b : ListId) (x : Name) : Type 0 where
  pub object : Object
  pub has : HasNamed object.members x
  pub one : AgreesBy rules reads object a
  pub other : AgreesBy rules reads object b
  pub one_has : HasKey one.items (named x)
  pub other_has : HasKey other.items (named x)

-- there is no such object, by the numbers of the lists
abbrev pub IsMemberApart : Meaning → Apart → ℕ → ℕ → Name → Type 0
IsMemberApart m apart first second x =
    LeavesAll m apart → (a b : ListId) (d : ℕ) → IsNumberOfList m a first
    → IsNumberOfList m b second → BothHave m.rules (ReadsDown m.rules d) a b x → ⊥

-- no choices of two lists have a key in common whose member an object has
pub record ShareNone (m : Meaning) (apart : Apart) (first second : ℕ) : Type 0 where
  pub members : (a : ListId) (x : Name) → IsNumberOfList m a first
      → IsKnown (Chooses m.rules.lists a) (named x) → IsMemberApart m apart first second x
  pub rests : (a b : ListId) → IsNumberOfList m a first → IsNumberOfList m b second
      → IsKnown (Chooses m.rules.lists a) rest → IsKnown (Chooses m.rules.lists b) rest → ⊥

-- one object is read by two branches of a selection, of each by a choice that is one of the list of
-- a number
pub record BranchSides (m : Meaning) (reads : Reads) (s : Selection) (one other : ℕ) : Type 0 where
  pub first : ℕ
  pub second : ℕ
  pub meet : BranchesMeet m.rules reads s first second
  pub first_through : IsThrough m meet.first_reads.chooses.of_branch one
  pub second_through : IsThrough m meet.second_reads.chooses.of_branch other

-- there is none, however deep it nests
abbrev pub AreInnersApart : Meaning → Bool → ℕ → ℕ → Type 0
AreInnersApart m must one other =
    (s : Selection) (d : ℕ) (sides : BranchSides m (ReadsDown m.rules d) s one other)
    → MustTouch must m.rules sides.meet.object s → ⊥
