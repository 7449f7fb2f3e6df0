-- The members of a name in lists of parts, as a plan has them.
use Rattle.std.specs.Prelude.{◌≡◌, ◌+◌, ⊤, ℕ, Bool, true, List, [], ◌∷◌, Option, Some, None}
use Rattle.std.specs.Prelude.{if◌then◌else◌, slice_get}
use Rattle.std.specs.List.{filter_map, flat_map}
use Rattle.std.specs.Option.{option_map_or}
use Rattle.std.specs.Str.{bytes_eq}
use Rattle.facet_solver_shape.specs.Names.{Name}
use Rattle.facet_solver_reader.specs.declared.plan.Plan.{Plan}
use Rattle.facet_solver_reader.specs.declared.plan.PlannedList.{PlannedList}
use Rattle.facet_solver_reader.specs.declared.plan.PlannedPart.{PlannedPart}
use Rattle.facet_solver_reader.specs.declared.plan.PlannedPart.TheVariants as parts
use Rattle.facet_solver_reader.specs.declared.plan.PlannedSelection.{PlannedSelection}
use Rattle.facet_solver_reader.specs.Choices.{Item, member_of, catch_all_of, presence_of, Reading}
use Rattle.facet_solver_reader.specs.Documents.{Tree}
use Rattle.facet_solver_reader.specs.Objects.{Reads}
use Rattle.facet_solver_reader.specs.Parts.{MemberPart, Target}
use Rattle.facet_solver_reader.specs.Plans.{AreBelow, AreInPairs, IsNumberOf, IsPlannedCatchAll}
use Rattle.facet_solver_reader.specs.Plans.{IsPlannedList, IsPlannedMember, Meaning}
use Rattle.facet_solver_reader.specs.Types.{is_key}

-- an element stands in a list
abbrev pub IsIn : {X : Type 0} → X → List X → Type 0
IsIn x xs = (k : ℕ) × (slice_get xs k ≡ Some x)

-- the target of a part, if it is a member of the name
abbrev pub target_named : Name → PlannedPart → Option ℕ
target_named x (parts.Member p) = if bytes_eq p.name.now x then Some p.target else None
target_named x _ = None

-- the targets of the members of the name in a list
abbrev pub targets_in : Name → PlannedList → List ℕ
targets_in x l = filter_map (target_named x) l.parts.items

-- the same of the list of a number, if it is there
abbrev pub targets_at : List PlannedList → Name → ℕ → List ℕ
targets_at lists x n = option_map_or (targets_in x) (slice_get lists n) []

-- the targets of the members of the name in these of several lists
abbrev pub targets_below : List PlannedList → Name → List ℕ → List ℕ
targets_below lists x below = flat_map (targets_at lists x) below

-- the targets that the list of a number has for a name, if it is there
abbrev pub AreTargetsAt : Plan → ℕ → Name → List ℕ → Type 0
AreTargetsAt p n x ts =
    (l : PlannedList) → slice_get p.lists.items n ≡ Some l
    → ts ≡ targets_below p.lists.items x l.below.items

-- a plan's lists are those that the numbers of a meaning stand for
pub record AreListsOf (m : Meaning) (p : Plan) : Type 0 where
  pub each : AreInPairs (IsPlannedList m) m.lists p.lists.items
  pub below : (n : ℕ) (l : PlannedList) → slice_get p.lists.items n ≡ Some l
      → AreBelow p n l.below.items

-- so are its keys, and whether members that nothing takes are refused
pub record IsMeaningOf (m : Meaning) (p : Plan) : Type 0 where
  pub lists : AreListsOf m p
  pub strict : p.strict ≡ m.rules.strict
  pub keys : (key : ℕ) (x : Name) → is_key p.shapes.now key x ≡ m.rules.is_key key x

-- a part is that of an item
abbrev pub IsPartOf : Meaning → Item → PlannedPart → Type 0
IsPartOf m (member_of part r) (parts.Member p) = IsPlannedMember m part p
IsPartOf m (catch_all_of k t) (parts.CatchAll p) = IsPlannedCatchAll m k p
IsPartOf m _ _ = ⊥

-- a part of one of these of several lists is that of an item
pub record HasPart (m : Meaning) (lists : List PlannedList) (below : List ℕ) (item : Item)
    : Type 0 where
  pub number : ℕ
  pub among : IsIn number below
  pub list : PlannedList
  pub is_list : slice_get lists number ≡ Some list
  pub part : PlannedPart
  pub is_part : IsIn part list.parts.items
  pub is : IsPartOf m item part

-- each item but presences has such a part
abbrev pub HaveParts : Meaning → List PlannedList → List ℕ → List Item → Type 0
HaveParts m lists below [] = ⊤
HaveParts m lists below (member_of part r ∷ items) =
    HasPart m lists below (member_of part r) × HaveParts m lists below items
HaveParts m lists below (catch_all_of k t ∷ items) =
    HasPart m lists below (catch_all_of k t) × HaveParts m lists below items
HaveParts m lists below (presence_of s ∷ items) = HaveParts m lists below items

-- branches of these of several lists are among these
abbrev pub AreClosed : List PlannedList → List ℕ → Type 0
AreClosed lists below =
    (n : ℕ) (l : PlannedList) (s : PlannedSelection) (b : ℕ) → IsIn n below
    → slice_get lists n ≡ Some l → IsIn (parts.Selection s) l.parts.items
    → IsIn b s.branches.items → IsIn b below

-- a value is read as a target of one of these numbers
pub record IsReadAmong (m : Meaning) (reads : Reads) (numbers : List ℕ) (v : Tree) : Type 0 where
  pub target : Target
  pub number : ℕ
  pub is_number : IsNumberOf m target number
  pub among : IsIn number numbers
  pub reading : Reading
  pub reads_as : reads target v reading
