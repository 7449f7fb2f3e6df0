-- What a target reads, by atoms: what asks nothing else of the value itself.
use Rattle.std.specs.Prelude.{◌≡◌, ◌⊎◌, ◌<◌, ⊤, ℕ, Bool, true, false, IsTrue, List, [], ◌∷◌, All}
use Rattle.std.specs.Prelude.{Any, Option, Some, None, slice_get, length, nat_eq}
use Rattle.std.specs.List.{Contains, list_any}
use Rattle.std.specs.Str.{chars}
use Rattle.facet_solver_shape.specs.Names.{Name}
use Rattle.facet_solver_checker.specs.declared.atoms.Atom.{Atom}
use Rattle.facet_solver_checker.specs.declared.atoms.Atoms.{Atoms}
use Rattle.facet_solver_checker.specs.declared.atoms.Atom.TheVariants.{Null, Plain, Joined}
use Rattle.facet_solver_reader.specs.declared.plan.Plan.{Plan}
use Rattle.facet_solver_reader.specs.declared.plan.PlannedAlternative.{PlannedAlternative}
use Rattle.facet_solver_reader.specs.declared.plan.PlannedEnd.{PlannedEnd}
use Rattle.facet_solver_reader.specs.declared.plan.PlannedEnd.TheVariants as planned
use Rattle.facet_solver_reader.specs.declared.plan.PlannedKind.{PlannedKind}
use Rattle.facet_solver_reader.specs.declared.plan.PlannedKind.TheVariants as kinds
use Rattle.facet_solver_reader.specs.declared.plan.PlannedName.{PlannedName}
use Rattle.facet_solver_reader.specs.declared.plan.PlannedTarget.{PlannedTarget}
use Rattle.facet_solver_reader.specs.Choices.{Choice, Reading}
use Rattle.facet_solver_reader.specs.Documents.{Tree, null, truth, number, text, list, object}
use Rattle.facet_solver_reader.specs.Documents.{Member, member, no_members, items, members}
use Rattle.facet_solver_checker.specs.ListsMeet.{MayRead}
use Rattle.facet_solver_checker.specs.PlanMembers.{IsMeaningOf}
use Rattle.facet_solver_reader.specs.Objects.{Reads}
use Rattle.facet_solver_reader.specs.Parts.{ListId, Target}
use Rattle.facet_solver_reader.specs.Plans.{AreAskedFirst, AreDistinct, AreInPairs, IsNumberOf}
use Rattle.facet_solver_reader.specs.Plans.{IsNumberOfList, IsPlannedTarget, Meaning}
use Rattle.facet_solver_reader.specs.Values.{is_in}

-- a plan has what its numbers stand for
pub record IsPlanFor (m : Meaning) (p : Plan) : Type 0 where
  pub each_target : AreInPairs (IsPlannedTarget m) m.targets p.targets.items
  pub distinct : AreDistinct m.targets
  pub asked_first : AreAskedFirst m.rules m.targets
  pub meaning : IsMeaningOf m p

-- a value is read as the target of a number
pub record ReadsNumber (m : Meaning) (reads : Reads) (n : ℕ) (v : Tree) : Type 0 where
  pub target : Target
  pub reading : Reading
  pub number_is : IsNumberOf m target n
  pub is_read : reads target v reading

-- an object is read by the list of a number, whether or not another reading takes what this ignores
pub record ReadsByList (m : Meaning) (reads : Reads) (n : ℕ) (ms : List Member) : Type 0 where
  pub list : ListId
  pub choice : Choice
  pub number_is : IsNumberOfList m list n
  pub is_read : MayRead m.rules reads list ms choice

-- a member's name is a key, and its value is read as the target of a number
abbrev pub ReadsValueOf : Meaning → Reads → ℕ → ℕ → Member → Type 0
ReadsValueOf m reads key n one =
    IsTrue (m.rules.is_key key one.name) × ReadsNumber m reads n one.value

-- a text names a variant that is a unit
abbrev pub NamesUnit : Name → PlannedName → Type 0
NamesUnit x p = IsTrue p.is_unit × (p.text.now ≡ x)

-- a name is a variant's, and a value is read as its content
abbrev pub NamesContent : Meaning → Reads → Name → Tree → PlannedName → Type 0
NamesContent m reads x v p = (p.text.now ≡ x) × ReadsNumber m reads p.content v

-- a text, or an object of one member, names a variant
abbrev pub NamesVariant : Meaning → Reads → List PlannedName → Tree → Type 0
NamesVariant m reads ps (text x) = Any (NamesUnit x) ps
NamesVariant m reads ps (object (member x v no_members)) = Any (NamesContent m reads x v) ps
NamesVariant m reads ps _ = ⊥

-- a value is read by what a target comes to, where that asks nothing else of the value itself
abbrev pub ReadsAs : Meaning → Reads → PlannedEnd → Tree → Type 0
ReadsAs m reads planned.Null null = ⊤
ReadsAs m reads planned.Truth (truth b) = ⊤
ReadsAs m reads (planned.Whole range) (number n) = IsTrue (is_in range n)
ReadsAs m reads planned.Float (number n) = ⊤
ReadsAs m reads planned.Text (text x) = ⊤
ReadsAs m reads planned.Character (text x) = IsTrue (nat_eq (length (chars x)) 1)
ReadsAs m reads (planned.Tag name) (text x) = x ≡ name.now
ReadsAs m reads planned.Nothing null = ⊤
ReadsAs m reads planned.Nothing (object no_members) = ⊤
ReadsAs m reads planned.Anything v = ⊤
ReadsAs m reads (planned.List n) (list vs) = All (ReadsNumber m reads n) (items vs)
ReadsAs m reads (planned.Tuple ns) (list vs) =
    AreInPairs (ReadsNumber m reads) ns.items (items vs)
ReadsAs m reads (planned.Map key n) (object ms) = All (ReadsValueOf m reads key n) (members ms)
ReadsAs m reads (planned.Object (Some n)) (object ms) = ReadsByList m reads n (members ms)
ReadsAs m reads (planned.Named ps) v = NamesVariant m reads ps.items v
ReadsAs m reads _ _ = ⊥

-- a value is read by what the target at a number comes to
pub record ReadsPlain (m : Meaning) (plan : Plan) (reads : Reads) (n : ℕ) (v : Tree) : Type 0
  where
    pub target : PlannedTarget
    pub target_is : slice_get plan.targets.items n ≡ Some target
    pub is_read : ReadsAs m reads target.end v

-- a value is read by an atom
abbrev pub ReadsAtom : Meaning → Plan → Reads → Atom → Tree → Type 0
ReadsAtom m plan reads Null v = ReadsAs m reads planned.Null v
ReadsAtom m plan reads (Plain n) v = ReadsPlain m plan reads n v
ReadsAtom m plan reads (Joined n) v = ReadsAs m reads (planned.Object (Some n)) v

-- whether an alternative of a kind asks the same value on
abbrev pub AsksOnward : PlannedKind → Type 0
AsksOnward kinds.Joins = ⊥
AsksOnward kinds.Null = ⊥
AsksOnward _ = ⊤

-- an alternative asks the same value on, as the target of a number
abbrev pub AsksByAlternative : ℕ → PlannedAlternative → Type 0
AsksByAlternative k p = AsksOnward p.kind × (p.content ≡ k)

-- a target asks the target of a number of the same value
abbrev pub AsksNumber : PlannedEnd → ℕ → Type 0
AsksNumber (planned.Option n) k = n ≡ k
AsksNumber (planned.Same n) k = n ≡ k
AsksNumber (planned.Untagged joined ps) k = Any (AsksByAlternative k) ps.items
AsksNumber _ k = ⊥

-- whether a kind reads null alone
abbrev pub is_null_kind : PlannedKind → Bool
is_null_kind kinds.Null = true
is_null_kind _ = false

-- whether an alternative reads null alone
abbrev pub is_null_alone : PlannedAlternative → Bool
is_null_alone p = is_null_kind p.kind

-- whether a target has null as an atom by itself
abbrev pub has_null : PlannedEnd → Bool
has_null (planned.Option n) = true
has_null (planned.Untagged joined ps) = list_any is_null_alone ps.items
has_null _ = false

-- whether a target asks nothing of the same value
abbrev pub is_plain : PlannedEnd → Bool
is_plain (planned.Option n) = false
is_plain (planned.Same n) = false
is_plain (planned.Untagged joined ps) = false
is_plain _ = true

-- the number of the list of the variants that join
abbrev pub joined_of : PlannedEnd → Option ℕ
joined_of (planned.Untagged joined ps) = joined
joined_of _ = None

-- a target at a number has an atom by itself
abbrev pub HasOwn : ℕ → PlannedEnd → Atom → Type 0
HasOwn i e Null = IsTrue (has_null e)
HasOwn i e (Plain n) = IsTrue (is_plain e) × (i ≡ n)
HasOwn i e (Joined n) = joined_of e ≡ Some n

-- the target at a number has an atom: by itself, or what it asks of the same value has it
pub data HasAtom (plan : Plan) : ℕ → Atom → Type 0 where
  by_itself : (i : ℕ) (t : PlannedTarget) (a : Atom) → slice_get plan.targets.items i ≡ Some t
      → HasOwn i t.end a → HasAtom plan i a
  as_asked : (i k : ℕ) (t : PlannedTarget) (a : Atom) → slice_get plan.targets.items i ≡ Some t
      → AsksNumber t.end k → HasAtom plan k a → HasAtom plan i a

-- what each target asks of the same value has a lower number
abbrev pub AsksLower : Plan → Type 0
AsksLower plan =
    (i k : ℕ) (t : PlannedTarget) → slice_get plan.targets.items i ≡ Some t
    → AsksNumber t.end k → k < i

-- the atoms at a number, if there are any, are among those of a list
abbrev pub HasLower : List Atoms → List Atom → ℕ → Type 0
HasLower lower atoms k =
    (l : Atoms) → slice_get lower k ≡ Some l → All (Contains atoms) l.each.items

-- the same of what an alternative asks of the same value
abbrev pub HasOnward : List Atoms → List Atom → PlannedAlternative → Type 0
HasOnward lower atoms p = AsksOnward p.kind → HasLower lower atoms p.content

-- each atom of each target is in the list at its number
abbrev pub HaveAtoms : Plan → List Atoms → Type 0
HaveAtoms plan ls =
    (i : ℕ) (l : Atoms) (a : Atom) → slice_get ls i ≡ Some l → HasAtom plan i a
    → Contains l.each.items a
