-- Two variants of an enum that read no value in common.
use Rattle.std.specs.Prelude.{◌≡◌, ◌⊎◌, ⊤, ℕ, Bool, true, false, IsTrue, List, Option, Some, None}
use Rattle.std.specs.Prelude.{length, nat_lt, if◌then◌else◌, slice_get, All}
use Rattle.std.specs.List.{Contains}
use Rattle.facet_solver_shape.specs.declared.shape.range.WholeRange.{WholeRange}
use Rattle.facet_solver_reader.specs.declared.plan.Plan.{Plan}
use Rattle.facet_solver_reader.specs.declared.plan.PlannedAlternative.{PlannedAlternative}
use Rattle.facet_solver_reader.specs.declared.plan.PlannedEnd.{PlannedEnd}
use Rattle.facet_solver_reader.specs.declared.plan.PlannedEnd.TheVariants as planned
use Rattle.facet_solver_reader.specs.declared.plan.PlannedKind.{PlannedKind}
use Rattle.facet_solver_reader.specs.declared.plan.PlannedKind.TheVariants as kinds
use Rattle.facet_solver_reader.specs.declared.plan.PlannedName.{PlannedName}
use Rattle.facet_solver_reader.specs.declared.plan.PlannedTarget.{PlannedTarget}
use Rattle.facet_solver_reader.specs.Choices.{Reading}
use Rattle.facet_solver_reader.specs.Documents.{Tree, null, number}
use Rattle.facet_solver_reader.specs.Objects.{Reads}
use Rattle.facet_solver_reader.specs.Parts.{Target}
use Rattle.facet_solver_reader.specs.Plans.{IsNumberOf, Meaning}
use Rattle.facet_solver_reader.specs.Values.{ReadsDown, ReadsWithin, is_in}
use Rattle.facet_solver_checker.specs.declared.apart.Apart.{Apart}
use Rattle.facet_solver_checker.specs.declared.atoms.Atom.{Atom}
use Rattle.facet_solver_checker.specs.declared.atoms.Atom.TheVariants.{Null, Plain}
use Rattle.facet_solver_checker.specs.declared.atoms.Atoms.{Atoms}
use Rattle.facet_solver_checker.specs.Aparts.{LeavesAll, LeavesDown}
use Rattle.facet_solver_checker.specs.Atoms.{AsksOnward, HasOnward, IsPlanFor, ReadsAs}
use Rattle.facet_solver_checker.specs.Atoms.{is_null_alone}
use Rattle.facet_solver_checker.specs.Differing.{Side, joined, variant}
use Rattle.facet_solver_checker.specs.Sites.{VariantsMeet}

-- the way of an index: a variant, or, behind the last one, those that join
abbrev pub way_at : ℕ → ℕ → Side
way_at count index = if nat_lt index count then variant index else joined

-- the way of an index to read an enum
abbrev pub side_at : PlannedEnd → ℕ → Side
side_at (planned.Named vs) index = variant index
side_at (planned.Untagged o alone) index = way_at (length alone.items) index
side_at _ index = joined

-- no value is read by two variants of an enum
abbrev pub AreVariantsApart : Plan → Apart → ℕ → ℕ × ℕ → Type 0
AreVariantsApart plan apart target ways =
    (m : Meaning) → IsPlanFor m plan → (t : Target) (p : PlannedTarget) (d : ℕ)
    → IsNumberOf m t target → slice_get plan.targets.items target ≡ Some p
    → LeavesAll m apart
    → VariantsMeet (ReadsDown m.rules d) t (side_at p.end ways.0) (side_at p.end ways.1) → ⊥

-- no value is read by two ways to read what a target comes to
abbrev pub AreSidesApart : Plan → Apart → PlannedEnd → Side → Side → Type 0
AreSidesApart plan apart e a b =
    (m : Meaning) → IsPlanFor m plan → (t : Target) (n d : ℕ) (p : PlannedTarget)
    → IsNumberOf m t n → slice_get plan.targets.items n ≡ Some p → p.end ≡ e
    → LeavesAll m apart → VariantsMeet (ReadsDown m.rules d) t a b → ⊥

-- a list has the atoms by which an alternative reads a value by itself or as a fallback
pub record AreAtomsOf (lower : List Atoms) (p : PlannedAlternative) (atoms : List Atom) : Type 0
  where
    pub null : IsTrue (is_null_alone p) → Contains atoms Null
    pub asked : HasOnward lower atoms p

-- whether a kind is that of a fallback
abbrev pub is_fallback_kind : PlannedKind → Bool
is_fallback_kind kinds.Fallback = true
is_fallback_kind _ = false

-- whether a variant of an untagged enum is a fallback
abbrev pub is_fallback : PlannedAlternative → Bool
is_fallback p = is_fallback_kind p.kind

-- a value is read by a variant of an untagged enum: as null alone, or as what it asks
pub data IsReadByOne (m : Meaning) (itself : Reads) (p : PlannedAlternative) (v : Tree) : Type 0
  where
    as_null : IsTrue (is_null_alone p) → v ≡ null → IsReadByOne m itself p v
    as_content : AsksOnward p.kind → (u : Target) (q : Reading) → IsNumberOf m u p.content
        → itself u v q → IsReadByOne m itself p v

-- no value is read by two variants of untagged enums
abbrev pub AreOnesApart : Plan → Apart → PlannedAlternative → PlannedAlternative → Type 0
AreOnesApart plan apart a b =
    (m : Meaning) → IsPlanFor m plan → (depth n : ℕ) → LeavesDown m apart depth → (v : Tree)
    → IsReadByOne m (ReadsWithin m.rules (ReadsDown m.rules depth) n) a v
    → IsReadByOne m (ReadsWithin m.rules (ReadsDown m.rules depth) n) b v → ⊥

-- none by the list of those that join and by another variant
abbrev pub IsListApart : Plan → Apart → ℕ → PlannedAlternative → Type 0
IsListApart plan apart list p =
    (m : Meaning) → IsPlanFor m plan → (depth n : ℕ) → LeavesDown m apart depth → (v : Tree)
    → ReadsAs m (ReadsDown m.rules depth) (planned.Object (Some list)) v
    → IsReadByOne m (ReadsWithin m.rules (ReadsDown m.rules depth) n) p v → ⊥

-- a value is a number, whole and of a range
abbrev pub IsWholeIn : WholeRange → Tree → Type 0
IsWholeIn range (number n) = IsTrue (is_in range n)
IsWholeIn range _ = ⊥

-- a variant reads whole numbers of a range alone
abbrev pub ReadsWholes : Plan → PlannedAlternative → WholeRange → Type 0
ReadsWholes plan p range =
    (m : Meaning) → IsPlanFor m plan → (depth n : ℕ) (v : Tree)
    → IsReadByOne m (ReadsWithin m.rules (ReadsDown m.rules depth) n) p v → IsWholeIn range v

-- a variant is of floats, and another of a type of whole numbers: so it reads none that this reads
pub record IsFloatBeside (plan : Plan) (a b : PlannedAlternative) : Type 0 where
  pub range : WholeRange
  pub float : a.kind ≡ kinds.Float
  pub whole : b.kind ≡ kinds.Whole range
  pub wholes : ReadsWholes plan b range

-- two variants of one enum read no value in common: one alone is a fallback, which reads only what
-- no other does; or one is of floats beside whole numbers; or what they read is apart
pub data AreTwoApart (plan : Plan) (apart : Apart) (a b : PlannedAlternative) : Type 0 where
  by_fallback : (is_fallback a ≡ is_fallback b → ⊥) → AreTwoApart plan apart a b
  by_float : IsFloatBeside plan a b → AreTwoApart plan apart a b
  by_whole : IsFloatBeside plan b a → AreTwoApart plan apart a b
  by_atoms : AreOnesApart plan apart a b → AreTwoApart plan apart a b

-- an atom reads whole numbers of a range alone
abbrev pub IsWholeAtom : Plan → WholeRange → Atom → Type 0
IsWholeAtom plan range (Plain n) =
    (t : PlannedTarget) → slice_get plan.targets.items n ≡ Some t → t.end ≡ planned.Whole range
IsWholeAtom plan range _ = ⊥

-- and of those that join and another variant
abbrev pub AreJoinedApart : Plan → Apart → Option ℕ → PlannedAlternative → Type 0
AreJoinedApart plan apart o p =
    is_fallback p ≡ false → (n : ℕ) → o ≡ Some n → IsListApart plan apart n p

-- two variants that a document names have different names
pub record AreNamesApart (ps : List PlannedName) (j k : ℕ) : Type 0 where
  pub first : PlannedName
  pub second : PlannedName
  pub first_is : slice_get ps j ≡ Some first
  pub second_is : slice_get ps k ≡ Some second
  pub differ : first.text.now ≡ second.text.now → ⊥

-- a kind is that of floats, and another that of whole numbers of a range, which atoms read alone
pub record IsFloatKindBeside (plan : Plan) (float whole : PlannedKind) (atoms : List Atom) : Type 0
  where
    pub range : WholeRange
    pub is_float : float ≡ kinds.Float
    pub is_whole : whole ≡ kinds.Whole range
    pub all : All (IsWholeAtom plan range) atoms
