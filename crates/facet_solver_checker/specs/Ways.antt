-- In which ways lists of parts read the member of a name.
use Rattle.std.specs.Prelude.{◌≡◌, ◌⊎◌, ℕ, Bool, true, false, not, ◌&&◌, ◌||◌, List, [], Option}
use Rattle.std.specs.Prelude.{Some, None, if◌then◌else◌, slice_get}
use Rattle.std.specs.List.{filter_map, flat_map, list_all, list_any}
use Rattle.std.specs.Option.{option_map_or}
use Rattle.facet_solver_shape.specs.Catalogues.{Catalogue}
use Rattle.facet_solver_shape.specs.Names.{Name}
use Rattle.facet_solver_reader.specs.declared.plan.Plan.{Plan}
use Rattle.facet_solver_reader.specs.declared.plan.PlannedCatchAll.TheVariants as caught
use Rattle.facet_solver_reader.specs.declared.plan.PlannedList.{PlannedList}
use Rattle.facet_solver_reader.specs.declared.plan.PlannedPart.{PlannedPart}
use Rattle.facet_solver_reader.specs.declared.plan.PlannedPart.TheVariants as parts
use Rattle.facet_solver_reader.specs.Documents.{Tree}
use Rattle.facet_solver_reader.specs.Known.{named}
use Rattle.facet_solver_reader.specs.Objects.{Reads}
use Rattle.facet_solver_reader.specs.Plans.{Meaning, has_key}
use Rattle.facet_solver_reader.specs.Types.{is_key}
use Rattle.facet_solver_checker.specs.declared.apart.Apart.{Apart}
use Rattle.facet_solver_checker.specs.declared.objects.Side.{Side}
use Rattle.facet_solver_checker.specs.declared.ways.Ways.{Ways}
use Rattle.facet_solver_checker.specs.Aparts.{is_apart}
use Rattle.facet_solver_checker.specs.PlanMembers.{IsReadAmong, targets_below}

-- the target of the values of a part, if it is a map whose keys have the name
abbrev pub target_taken : Catalogue → Name → PlannedPart → Option ℕ
target_taken shapes x (parts.CatchAll (caught.Map key n)) =
    if is_key shapes key x then Some n else None
target_taken shapes x _ = None

-- the targets of the values of the maps with the key in a list
abbrev pub taken_in : Catalogue → Name → PlannedList → List ℕ
taken_in shapes x l = filter_map (target_taken shapes x) l.parts.items

-- those in the list of a number, if it is there
abbrev pub taken_at : Catalogue → List PlannedList → Name → ℕ → List ℕ
taken_at shapes lists x n = option_map_or (taken_in shapes x) (slice_get lists n) []

-- those in these of several lists
abbrev pub taken_below : Catalogue → List PlannedList → Name → List ℕ → List ℕ
taken_below shapes lists x below = flat_map (taken_at shapes lists x) below

-- whether a part takes members of any value
abbrev pub takes_any : PlannedPart → Bool
takes_any (parts.CatchAll caught.Anything) = true
takes_any _ = false

-- whether a part of a list does
abbrev pub takes_any_in : PlannedList → Bool
takes_any_in l = list_any takes_any l.parts.items

-- whether a part of the list of a number does
abbrev pub takes_any_at : List PlannedList → ℕ → Bool
takes_any_at lists n = option_map_or takes_any_in (slice_get lists n) false

-- whether a part of one of these of several lists does
abbrev pub takes_any_below : List PlannedList → List ℕ → Bool
takes_any_below lists below = list_any (takes_any_at lists) below

-- the targets that a list, of which these are left, reads the member of the name as
abbrev pub way_targets : Plan → PlannedList → Name → List ℕ → List ℕ
way_targets p l x below =
    if has_key l (named x) then targets_below p.lists.items x below
    else taken_below p.shapes.now p.lists.items x below

-- whether it reads the member whatever its value is
abbrev pub has_any_way : Plan → PlannedList → Name → List ℕ → Bool
has_any_way p l x below =
    not (has_key l (named x)) && (not p.strict || takes_any_below p.lists.items below)

-- the ways in which a list, of which these are left, reads the member of the name
pub record AreWays (p : Plan) (l : PlannedList) (x : Name) (below : List ℕ) (w : Ways) : Type 0
  where
    pub targets : w.targets.items ≡ way_targets p l x below
    pub any : w.any ≡ has_any_way p l x below

-- those of a list by the choices of one within it, by their numbers, if both are there
abbrev pub AreWaysAt : Plan → Side → Name → Ways → Type 0
AreWaysAt p side x w =
    (l inner : PlannedList) → slice_get p.lists.items side.list ≡ Some l
    → slice_get p.lists.items side.inner ≡ Some inner → AreWays p l x inner.below.items w

-- a value is read in one of the ways
abbrev pub IsReadIn : Meaning → Reads → Ways → Tree → Type 0
IsReadIn m reads w v = (w.any ≡ true) ⊎ IsReadAmong m reads w.targets.items v

-- whether a table has each pair of a number and one of several
abbrev pub is_apart_from : Apart → List ℕ → ℕ → Bool
is_apart_from apart second t = list_all (λ u. is_apart apart t u) second

-- whether a table has each pair of two lists of numbers
abbrev pub all_apart : Apart → List ℕ → List ℕ → Bool
all_apart apart first second = list_all (λ t. is_apart_from apart second t) first

-- whether a list is empty
abbrev pub is_nil : List ℕ → Bool
is_nil [] = true
is_nil _ = false

-- whether there is no way
abbrev pub has_no_way : Ways → Bool
has_no_way w = not w.any && is_nil w.targets.items

-- whether no value is read in one of the ways and in one of the others, by a table
abbrev pub ways_apart : Apart → Ways → Ways → Bool
ways_apart apart w v =
    ((not w.any || has_no_way v) && (not v.any || has_no_way w))
    && all_apart apart w.targets.items v.targets.items
