-- Lists of parts that read only objects which have a member of theirs.
use Rattle.std.specs.Prelude.{◌≡◌, ◌⊎◌, ⊤, ℕ, Bool, true, false, All, List, Option, Some, None}
use Rattle.std.specs.Prelude.{MatchOption, length, slice_get}
use Rattle.std.specs.Option.{option_map_or}
use Rattle.facet_solver_reader.specs.declared.plan.Plan.{Plan}
use Rattle.facet_solver_reader.specs.declared.plan.PlannedEnd.{PlannedEnd}
use Rattle.facet_solver_reader.specs.declared.plan.PlannedEnd.TheVariants as planned
use Rattle.facet_solver_reader.specs.declared.plan.PlannedList.{PlannedList}
use Rattle.facet_solver_reader.specs.declared.plan.PlannedPart.{PlannedPart}
use Rattle.facet_solver_reader.specs.declared.plan.PlannedPart.TheVariants as parts

-- whether the list of a number is flagged
abbrev pub is_touched : List Bool → ℕ → Bool
is_touched flags n = option_map_or (λ b. b) (slice_get flags n) false

-- the list of parts by which a value is read as an object
abbrev pub list_in : PlannedEnd → Option ℕ
list_in (planned.Object n) = n
list_in (planned.Untagged n alone) = n
list_in _ = None

-- an object is not read as a value by a list that is flagged
abbrev pub BearsOutEnd : List Bool → PlannedEnd → Type 0
BearsOutEnd flags e = (n : ℕ) → list_in e ≡ Some n → is_touched flags n ≡ false

-- none of the branches of a part is flagged, unless it may be absent
abbrev pub BearsOutBranches : List Bool → PlannedPart → Type 0
BearsOutBranches flags (parts.Selection s) =
    s.optional ≡ false → All (λ b. is_touched flags b ≡ false) s.branches.items
BearsOutBranches flags _ = ⊤

-- a list that is flagged is one part alone; one that is not has no branch that is flagged but in
-- selections that may be absent
pub record BearsOutList (flags : List Bool) (n : ℕ) (ps : List PlannedPart) : Type 0 where
  pub alone : is_touched flags n ≡ true → length ps ≡ 1
  pub branches : is_touched flags n ≡ false → All (BearsOutBranches flags) ps

-- the lists that are flagged read only objects which have a member of theirs: no value is read by
-- them as an object; each is one part alone, and a branch of selections that may be absent, or of
-- such lists
pub record AreTouched (plan : Plan) (flags : List Bool) : Type 0 where
  pub ends : All (λ t. BearsOutEnd flags t.end) plan.targets.items
  pub lists : (n : ℕ) (l : PlannedList) → slice_get plan.lists.items n ≡ Some l
      → BearsOutList flags n l.parts.items
