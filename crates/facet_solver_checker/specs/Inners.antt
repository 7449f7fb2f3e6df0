-- Lists whose choices have the items that choices of another list have.
use Rattle.std.specs.Prelude.{◌≡◌, ℕ, List, [], ◌∷◌, Option, Some, None, if◌then◌else◌, slice_get}
use Rattle.std.specs.List.{flat_map}
use Rattle.std.specs.Option.{option_map_or, unwrap_or}
use Rattle.facet_solver_reader.specs.declared.plan.PlannedList.{PlannedList}
use Rattle.facet_solver_reader.specs.declared.plan.PlannedPart.{PlannedPart}
use Rattle.facet_solver_reader.specs.declared.plan.PlannedPart.TheVariants as parts
use Rattle.facet_solver_reader.specs.Choices.{Choice, Item}
use Rattle.facet_solver_reader.specs.Known.{Chooses}
use Rattle.facet_solver_reader.specs.Parts.{ListId}
use Rattle.facet_solver_reader.specs.Plans.{IsNumberOfList, Meaning}
use Rattle.facet_solver_checker.specs.PlanMembers.{IsIn}

-- items are those of a choice of the list of a number
pub record IsThrough (m : Meaning) (items : List Item) (number : ℕ) : Type 0 where
  pub id : ListId
  pub is : IsNumberOfList m id number
  pub choice : Choice
  pub chooses : Chooses m.rules.lists id choice items

-- they are those of a choice of one of several lists
pub record IsThroughSome (m : Meaning) (items : List Item) (numbers : List ℕ) : Type 0 where
  pub number : ℕ
  pub among : IsIn number numbers
  pub through : IsThrough m items number

-- each choice of a list has the items of a choice of one of several
abbrev pub AreInners : Meaning → ℕ → List ℕ → Type 0
AreInners m n numbers = (items : List Item) → IsThrough m items n → IsThroughSome m items numbers

-- the branches of parts that are one selection which is always present
abbrev pub branches_of_only : List PlannedPart → Option (List ℕ)
branches_of_only (parts.Selection s ∷ []) =
    if s.optional then None else Some s.branches.items
branches_of_only _ = None

-- the branches of such a list, or the list itself
abbrev pub inners_at : List PlannedList → ℕ → List ℕ
inners_at lists n =
    option_map_or (λ l. unwrap_or (branches_of_only l.parts.items) (n ∷ [])) (slice_get lists n)
    (n ∷ [])

-- the same of several lists
abbrev pub all_inners : List PlannedList → List ℕ → List ℕ
all_inners lists numbers = flat_map (inners_at lists) numbers
