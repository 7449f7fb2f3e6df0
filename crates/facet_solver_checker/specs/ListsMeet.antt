-- Objects that two lists of parts read.
use Rattle.std.specs.Prelude.{◌≡◌, ◌⊎◌, ℕ, false, All, List}
use Rattle.std.proofs.Common.{inl, inr}
use Rattle.facet_solver_reader.specs.Choices.{Choice, Item}
use Rattle.facet_solver_reader.specs.Documents.{Member}
use Rattle.facet_solver_reader.specs.Known.{Chooses}
use Rattle.facet_solver_reader.specs.Objects.{HasNamed, IsReading, Reads, ReadsAll, ignoring}
use Rattle.facet_solver_reader.specs.Parts.{ListId}
use Rattle.facet_solver_reader.specs.Plans.{IsNumberOfList, Meaning}
use Rattle.facet_solver_reader.specs.Rules.{Rules}
use Rattle.facet_solver_reader.specs.Values.{ReadsDown}
use Rattle.facet_solver_shape.specs.Names.{Name}
use Rattle.facet_solver_checker.specs.declared.apart.Apart.{Apart}
use Rattle.facet_solver_checker.specs.declared.objects.Side.{Side}
use Rattle.facet_solver_checker.specs.Aparts.{LeavesDown}
use Rattle.facet_solver_checker.specs.Inners.{IsThrough}

-- an object is read by a list, whether or not another reading takes members that this one ignores:
-- all its members are taken, or, where the reader is not strict, those of no known name are ignored
abbrev pub MayRead : Rules → Reads → ListId → List Member → Choice → Type 0
MayRead rules reads list members c =
    ReadsAll rules reads members list c
    ⊎ ((rules.strict ≡ false)
    × IsReading rules reads (ignoring members list) (Chooses rules.lists list) c)

-- one object is read by two lists, where its values are read so
pub record ListsMeet (rules : Rules) (reads : Reads) (p q : ListId) : Type 0 where
  pub members : List Member
  pub first_choice : Choice
  pub second_choice : Choice
  pub first_reads : MayRead rules reads p members first_choice
  pub second_reads : MayRead rules reads q members second_choice

-- the items of the choice by which an object is read
abbrev pub may_items : (rules : Rules) (reads : Reads) (list : ListId) (members : List Member)
    (c : Choice) → MayRead rules reads list members c → List Item
may_items rules reads list members c (inl all) = all.reading.items
may_items rules reads list members c (inr ignoring) = ignoring.1.items

-- two lists, by their numbers, read no object in common, where values within it are read as pairs
-- that a table leaves
abbrev pub AreListsApart : Meaning → Apart → ℕ → ℕ → Type 0
AreListsApart m apart first second =
    (p q : ListId) (d : ℕ) → IsNumberOfList m p first → IsNumberOfList m q second
    → LeavesDown m apart d
    → ListsMeet m.rules (ReadsDown m.rules d) p q → ⊥

-- one object is read by two lists, of each by a choice that is one of a list within it
pub record SidesMeet (m : Meaning) (reads : Reads) (first second : Side) : Type 0 where
  pub p : ListId
  pub q : ListId
  pub is_first : IsNumberOfList m p first.list
  pub is_second : IsNumberOfList m q second.list
  pub meet : ListsMeet m.rules reads p q
  pub first_through : IsThrough m
      (may_items m.rules reads p meet.members meet.first_choice meet.first_reads) first.inner
  pub second_through : IsThrough m
      (may_items m.rules reads q meet.members meet.second_choice meet.second_reads) second.inner

-- there is none, where values within it are read as pairs that a table leaves
abbrev pub AreSidesApart : Meaning → Apart → Side → Side → Type 0
AreSidesApart m apart first second =
    (d : ℕ) → LeavesDown m apart d
    → SidesMeet m (ReadsDown m.rules d) first second → ⊥

-- the same of a side and each of several lists within the list of a number
abbrev pub AllOthersApart : Meaning → Apart → Side → ℕ → List ℕ → Type 0
AllOthersApart m apart first second inners =
    All (λ b. AreSidesApart m apart first (record { list = second; inner = b })) inners

-- there is none that has a member of the name
abbrev pub IsNameApart : Meaning → Apart → Side → Side → Name → Type 0
IsNameApart m apart first second x =
    (d : ℕ) → LeavesDown m apart d
    → (sides : SidesMeet m (ReadsDown m.rules d) first second) → HasNamed sides.meet.members x → ⊥
