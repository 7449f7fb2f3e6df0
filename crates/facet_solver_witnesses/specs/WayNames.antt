-- The names of the variants that a way to read takes.
use Rattle.std.specs.Prelude.{ℕ, List, [], ◌∷◌, Option, Some, None, option_and_then, option_map}
use Rattle.std.specs.Prelude.{slice_get}
use Rattle.std.specs.List.{flat_map}
use Rattle.std.specs.Option.{option_map_or, option_to_list}
use Rattle.facet_solver_reader.specs.declared.plan.Plan.{Plan}
use Rattle.facet_solver_reader.specs.declared.plan.PlannedEnd.{PlannedEnd}
use Rattle.facet_solver_reader.specs.declared.plan.PlannedEnd.TheVariants as planned
use Rattle.facet_solver_reader.specs.declared.plan.PlannedPart.{PlannedPart}
use Rattle.facet_solver_reader.specs.declared.plan.PlannedPart.TheVariants as parts
use Rattle.facet_solver_reader.specs.declared.read_error.TypeName.{TypeName}
use Rattle.facet_solver_witnesses.specs.declared.place.Fork.{Fork}
use Rattle.facet_solver_witnesses.specs.declared.place.Fork.TheVariants as forks

-- the name of the list of a number
abbrev pub list_name : Plan → ℕ → Option TypeName
list_name plan n = option_map (λ l. l.name) (slice_get plan.lists.items n)

-- the same as a list
abbrev pub names_at : Plan → ℕ → List TypeName
names_at plan n = option_to_list (list_name plan n)

-- the branches of a part, if it is a selection
abbrev pub branches_in : PlannedPart → List ℕ
branches_in (parts.Selection s) = s.branches.items
branches_in _ = []

-- the branches of the selection that a list has as a part
abbrev pub branches_at : Plan → ℕ → ℕ → List ℕ
branches_at plan list part =
    option_map_or (λ l. option_map_or branches_in (slice_get l.parts.items part) [])
    (slice_get plan.lists.items list) []

-- the names of the variants that join, by the number of their list
abbrev pub joined_names : Plan → Option ℕ → List TypeName
joined_names plan None = []
joined_names plan (Some list) = flat_map (names_at plan) (branches_at plan list 0)

-- the names of the variants that the way of an index takes of an enum
abbrev pub enum_names : Plan → PlannedEnd → ℕ → List TypeName
enum_names plan (planned.Named vs) way =
    option_to_list (option_map (λ v. v.name) (slice_get vs.items way))
enum_names plan (planned.Untagged joined alone) way =
    option_map_or (λ a. a.name ∷ []) (slice_get alone.items way) (joined_names plan joined)
enum_names plan _ way = []

-- the names of the variants that the way of an index takes
abbrev pub way_names : Plan → Fork → ℕ → List TypeName
way_names plan (forks.Selection list part) way =
    option_to_list (option_and_then (list_name plan) (slice_get (branches_at plan list part) way))
way_names plan (forks.Enum target) way =
    option_map_or (λ t. enum_names plan t.end way) (slice_get plan.targets.items target) []
