-- Whether a table has each pair of targets that members of one name have in lists of parts.
use Rattle.std.specs.Prelude.{ℕ, Bool, true, List, slice_get}
use Rattle.std.specs.List.{list_all}
use Rattle.std.specs.Option.{option_map_or}
use Rattle.facet_solver_shape.specs.Names.{Name}
use Rattle.facet_solver_reader.specs.declared.plan.PlannedList.{PlannedList}
use Rattle.facet_solver_reader.specs.declared.plan.PlannedPart.{PlannedPart}
use Rattle.facet_solver_checker.specs.declared.apart.Apart.{Apart}
use Rattle.facet_solver_checker.specs.Aparts.{is_apart}
use Rattle.facet_solver_checker.specs.PlanMembers.{target_named}

-- whether the table has a target with that of a part, if this is a member of the name
abbrev pub is_part_apart_from : Apart → Name → ℕ → PlannedPart → Bool
is_part_apart_from apart x t p = option_map_or (λ u. is_apart apart t u) (target_named x p) true

-- so with those of a list
abbrev pub is_list_apart_from : Apart → Name → ℕ → PlannedList → Bool
is_list_apart_from apart x t l = list_all (is_part_apart_from apart x t) l.parts.items

-- so with those of the list of a number, if it is there
abbrev pub is_number_apart_from : Apart → List PlannedList → Name → ℕ → ℕ → Bool
is_number_apart_from apart lists x t n =
    option_map_or (is_list_apart_from apart x t) (slice_get lists n) true

-- so with those of several lists
abbrev pub is_target_apart : Apart → List PlannedList → Name → List ℕ → ℕ → Bool
is_target_apart apart lists x second t = list_all (is_number_apart_from apart lists x t) second

-- whether it has that of a part with those of several lists, if this is a member of the name
abbrev pub is_part_apart : Apart → List PlannedList → Name → List ℕ → PlannedPart → Bool
is_part_apart apart lists x second p =
    option_map_or (is_target_apart apart lists x second) (target_named x p) true

-- so with those of a list
abbrev pub is_list_apart : Apart → List PlannedList → Name → List ℕ → PlannedList → Bool
is_list_apart apart lists x second l =
    list_all (is_part_apart apart lists x second) l.parts.items

-- so with those of the list of a number, if it is there
abbrev pub is_number_apart : Apart → List PlannedList → Name → List ℕ → ℕ → Bool
is_number_apart apart lists x second n =
    option_map_or (is_list_apart apart lists x second) (slice_get lists n) true

-- so with those of several lists
abbrev pub are_named_apart : Apart → List PlannedList → Name → List ℕ → List ℕ → Bool
are_named_apart apart lists x first second =
    list_all (is_number_apart apart lists x second) first
