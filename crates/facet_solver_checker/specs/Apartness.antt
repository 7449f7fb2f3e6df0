-- What reads no value in common with something else, given a table of targets that don't.
use Rattle.std.specs.Prelude.{◌≡◌, ⊤, slice_get, ℕ, Bool, true, false, ◌&&◌, IsTrue, All, List}
use Rattle.std.specs.Prelude.{Option, Some, None}
use Rattle.std.specs.Borrow.{Bor}
use Rattle.facet_solver_shape.specs.Names.{Name}
use Rattle.facet_solver_checker.specs.declared.apart.Apart.{Apart}
use Rattle.facet_solver_checker.specs.declared.atoms.Atom.{Atom}
use Rattle.facet_solver_checker.specs.declared.atoms.Atoms.{Atoms}
use Rattle.facet_solver_reader.specs.declared.plan.Plan.{Plan}
use Rattle.facet_solver_reader.specs.declared.plan.PlannedEnd.{PlannedEnd}
use Rattle.facet_solver_reader.specs.declared.plan.PlannedEnd.TheVariants as planned
use Rattle.facet_solver_reader.specs.declared.plan.PlannedName.{PlannedName}
use Rattle.facet_solver_checker.specs.Aparts.{LeavesDown, has_pair, is_apart}
use Rattle.facet_solver_checker.specs.Atoms.{IsPlanFor, ReadsAs, ReadsAtom, ReadsByList}
use Rattle.facet_solver_reader.specs.Documents.{Tree, null, truth, number, text, list, object}
use Rattle.facet_solver_reader.specs.Documents.{Items, Member, Members}
use Rattle.facet_solver_reader.specs.Objects.{Reads}
use Rattle.facet_solver_checker.specs.PlanMembers.{AreListsOf}
use Rattle.facet_solver_checker.specs.Requires.{AreRequired, NameLists}
use Rattle.facet_solver_reader.specs.Plans.{Meaning}
use Rattle.facet_solver_reader.specs.Values.{ReadsDown}

-- what something reads, by how the values within are read
abbrev pub Way : Type 0 → Type 1
Way V = Meaning → Reads → V → Type 0

-- two ways read nothing in common, whatever the numbers of a plan stand for, if the targets in a
-- table do not of the values within
abbrev pub AreApart : {V : Type 0} → Plan → Apart → Way V → Way V → Type 0
AreApart {V} plan apart first second =
    (m : Meaning) → IsPlanFor m plan → (depth : ℕ) → LeavesDown m apart depth → (v : V)
    → first m (ReadsDown m.rules depth) v → second m (ReadsDown m.rules depth) v → ⊥

-- what two targets come to reads no value in common
abbrev pub EndsApart : Plan → Apart → PlannedEnd → PlannedEnd → Type 0
EndsApart plan apart e f =
    AreApart plan apart (λ m reads v. ReadsAs m reads e v) (λ m reads v. ReadsAs m reads f v)

-- no list
abbrev pub ListsApart : Plan → Apart → PlannedEnd → PlannedEnd → Type 0
ListsApart plan apart e f =
    AreApart {V = Items} plan apart (λ m reads vs. ReadsAs m reads e (list vs))
    (λ m reads vs. ReadsAs m reads f (list vs))

-- no object
abbrev pub ObjectsApart : Plan → Apart → PlannedEnd → PlannedEnd → Type 0
ObjectsApart plan apart e f =
    AreApart {V = Members} plan apart (λ m reads ms. ReadsAs m reads e (object ms))
    (λ m reads ms. ReadsAs m reads f (object ms))

-- two lists of parts read no object in common
abbrev pub PartsApart : Plan → Apart → ℕ → ℕ → Type 0
PartsApart plan apart p q =
    AreApart {V = List Member} plan apart (λ m reads ms. ReadsByList m reads p ms)
    (λ m reads ms. ReadsByList m reads q ms)

-- two atoms read no value in common
abbrev pub AtomsApart : Plan → Apart → Atom → Atom → Type 0
AtomsApart plan apart a b =
    AreApart plan apart (λ m reads v. ReadsAtom m plan reads a v)
    (λ m reads v. ReadsAtom m plan reads b v)

-- names that each choice of a plan's lists requires, whatever the numbers of the plan stand for
abbrev pub AreNamesRequired : Plan → NameLists → Type 0
AreNamesRequired plan names = (m : Meaning) → AreListsOf m plan → AreRequired m names

-- what a target comes to and an atom read no value in common
abbrev pub EndApart : Plan → Apart → PlannedEnd → Atom → Type 0
EndApart plan apart e b =
    AreApart plan apart (λ m reads v. ReadsAs m reads e v)
    (λ m reads v. ReadsAtom m plan reads b v)

-- each of some atoms and each of others
abbrev pub AllApart : Plan → Apart → List Atom → List Atom → Type 0
AllApart plan apart xs ys = All (λ a. All (AtomsApart plan apart a) ys) xs

-- the atoms of two targets, by their numbers
pub record AreTargetsApart (plan : Plan) (apart : Apart) (atoms : List Atoms) (i j : ℕ) : Type 0
  where
    pub first : Atoms
    pub second : Atoms
    pub first_is : slice_get atoms i ≡ Some first
    pub second_is : slice_get atoms j ≡ Some second
    pub all : AllApart plan apart first.each.items second.each.items

-- the atoms of each pair of a table read no value in common
abbrev pub BearsOut : Plan → Apart → List Atoms → Type 0
BearsOut plan apart atoms =
    (i j : ℕ) → has_pair apart i j ≡ true → AreTargetsApart plan apart atoms i j

-- no text: how the values within are read makes no difference
abbrev pub TextsApart : PlannedEnd → PlannedEnd → Type 0
TextsApart e f =
    (m : Meaning) (depth : ℕ) (x : Name) → ReadsAs m (ReadsDown m.rules depth) e (text x)
    → ReadsAs m (ReadsDown m.rules depth) f (text x) → ⊥

-- a text is not read
abbrev pub IsNoText : PlannedEnd → Name → Type 0
IsNoText e x = (m : Meaning) (depth : ℕ) → ReadsAs m (ReadsDown m.rules depth) e (text x) → ⊥

-- the unit variants of a list are named by no text that is read
abbrev pub IsNoUnit : PlannedEnd → PlannedName → Type 0
IsNoUnit e p = IsTrue p.is_unit → IsNoText e p.text.now

-- whether null is read
abbrev pub reads_null : PlannedEnd → Bool
reads_null planned.Null = true
reads_null planned.Nothing = true
reads_null planned.Anything = true
reads_null _ = false

-- whether truth values may be
abbrev pub reads_truth : PlannedEnd → Bool
reads_truth planned.Truth = true
reads_truth planned.Anything = true
reads_truth _ = false

-- whether numbers may be
abbrev pub reads_number : PlannedEnd → Bool
reads_number (planned.Whole range) = true
reads_number planned.Float = true
reads_number planned.Anything = true
reads_number _ = false

-- whether texts may be
abbrev pub reads_text : PlannedEnd → Bool
reads_text planned.Text = true
reads_text planned.Character = true
reads_text (planned.Tag name) = true
reads_text (planned.Named ps) = true
reads_text planned.Anything = true
reads_text _ = false

-- whether lists may be
abbrev pub reads_list : PlannedEnd → Bool
reads_list (planned.List n) = true
reads_list (planned.Tuple ns) = true
reads_list planned.Anything = true
reads_list _ = false

-- whether objects may be
abbrev pub reads_object : PlannedEnd → Bool
reads_object (planned.Map key n) = true
reads_object (planned.Object (Some n)) = true
reads_object (planned.Named ps) = true
reads_object planned.Nothing = true
reads_object planned.Anything = true
reads_object _ = false

-- what both may be read as is of none of these kinds
pub record HaveNoSimple (e f : PlannedEnd) : Type 0 where
  pub null : (reads_null e && reads_null f) ≡ false
  pub truth : (reads_truth e && reads_truth f) ≡ false
  pub number : (reads_number e && reads_number f) ≡ false

-- a variant of one name has content that is apart from that of another variant of this name
abbrev pub NameIsApart : Apart → PlannedName → PlannedName → Type 0
NameIsApart apart p q = p.text.now ≡ q.text.now → is_apart apart p.content q.content ≡ true

-- variants that are named have, where their names are one, content that is apart
abbrev pub NamesApart : Apart → List PlannedName → List PlannedName → Type 0
NamesApart apart ps qs = All (λ p. All (NameIsApart apart p) qs) ps

-- the targets at one place read nothing in common, or there is none at this place of the other
abbrev pub PlaceIsApart : Apart → Option ℕ → Option ℕ → Type 0
PlaceIsApart apart (Some i) (Some j) = is_apart apart i j ≡ true
PlaceIsApart apart None None = ⊥
PlaceIsApart apart _ _ = ⊤

-- so at some place
abbrev pub ArePlacesApart : Apart → List ℕ → List ℕ → Type 0
ArePlacesApart apart is js =
    (k : ℕ) × PlaceIsApart apart (slice_get is k) (slice_get js k)
