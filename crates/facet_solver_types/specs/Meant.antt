-- Which declarations a name means, by their indices.
use Rattle.std.specs.Prelude.{ℕ, ◌+◌, ◌==◌, Bool, true, false, if◌then◌else◌, not, List, [], ◌∷◌, ◌++◌, filter, Option, Some, None, is_none, slice_get}
use Rattle.std.specs.Option.{option_map_or}
use Rattle.facet_solver_shape.specs.Names.{Name, name_eq}
use Rattle.facet_solver_types.specs.Modules.{stand_ins}
use Rattle.facet_solver_types.specs.Origins.{Origin, here, above, within, beside, known, elsewhere}
use Rattle.facet_solver_types.specs.Scopes.{Scope}
use Rattle.facet_solver_types.specs.Understood.{Declaration}

-- those of a name among declarations, the first of which has an index
abbrev pub namesakes_from : ℕ → Name → List Declaration → List ℕ
namesakes_from index name [] = []
namesakes_from index name (d ∷ others) =
    (if name_eq d.name.text name then index ∷ [] else []) ++ namesakes_from (index + 1) name others

-- those of a name
abbrev pub namesakes : Name → List Declaration → List ℕ
namesakes name declarations = namesakes_from 0 name declarations

-- whether a path leads nowhere else
abbrev pub is_here : Origin → Bool
is_here here = true
is_here origin = false

-- whether the declaration at an index stands in a module
abbrev pub is_in : List Declaration → Name → ℕ → Bool
is_in declarations module_name index =
    option_map_or (λ (d : Declaration). name_eq d.site.module_name module_name)
    (slice_get declarations index) false

-- whether this stands in the block whose brace stands there
abbrev pub is_of_block : ℕ → Option ℕ → Bool
is_of_block place (Some other) = other == place
is_of_block place None = false

-- whether the declaration at an index stands in the block whose brace stands there
abbrev pub is_in_block : List Declaration → ℕ → ℕ → Bool
is_in_block declarations place index =
    option_map_or (λ (d : Declaration). is_of_block place d.site.block)
    (slice_get declarations index) false

-- whether the declaration at an index stands in a block, if it is one
abbrev pub is_beside : List Declaration → Option ℕ → ℕ → Bool
is_beside declarations (Some place) index = is_in_block declarations place index
is_beside declarations None index = false

-- whether the declaration at an index stands in no block
abbrev pub is_outside : List Declaration → ℕ → Bool
is_outside declarations index =
    option_map_or (λ (d : Declaration). is_none d.site.block) (slice_get declarations index) false

-- those of some that stand in no block
abbrev pub those_outside : List Declaration → List ℕ → List ℕ
those_outside declarations indices = filter (is_outside declarations) indices

-- those of some that stand in a block, if it is one
abbrev pub those_in_block : List Declaration → Option ℕ → List ℕ → List ℕ
those_in_block declarations (Some place) indices = filter (is_in_block declarations place) indices
those_in_block declarations None indices = []

-- those of some that stand in a module
abbrev pub those_in : List Declaration → Name → List ℕ → List ℕ
those_in declarations module_name indices = filter (is_in declarations module_name) indices

-- those of some that do not
abbrev pub those_out_of : List Declaration → Name → List ℕ → List ℕ
those_out_of declarations module_name indices =
    filter (λ index. not (is_in declarations module_name index)) indices

-- some, or others where there is none
abbrev pub or_else : List ℕ → List ℕ → List ℕ
or_else [] others = others
or_else (index ∷ indices) others = index ∷ indices

-- those of some that a path leads to: in the module in which the type stands, out of it, or in the
-- one that a path in the crate names, and all where there is none of these; in a module; or none
abbrev pub led_to : Scope → Origin → List ℕ → List ℕ
led_to scope here indices =
    or_else (those_in scope.declarations scope.site.module_name indices) indices
led_to scope above indices =
    or_else (those_out_of scope.declarations scope.site.module_name indices) indices
led_to scope (within module_name) indices =
    or_else (those_in scope.declarations module_name indices) indices
led_to scope (beside module_name) indices = those_in scope.declarations module_name indices
led_to scope known indices = []
led_to scope elsewhere indices = []

-- those of some that a path leads to, of those in no block, or else of all
abbrev pub led_outside : Scope → Origin → List ℕ → List ℕ
led_outside scope origin indices =
    or_else (led_to scope origin (those_outside scope.declarations indices))
    (led_to scope origin indices)

-- those of some that stand in the block of a type whose path leads nowhere else
abbrev pub those_beside : Scope → Origin → List ℕ → List ℕ
those_beside scope here indices = those_in_block scope.declarations scope.site.block indices
those_beside scope origin indices = []

-- those of some that a name means for which none stands in: those in the block of the type, or else
-- those that its path leads to
abbrev pub meant_there : Scope → Origin → List ℕ → List ℕ
meant_there scope origin indices =
    or_else (those_beside scope origin indices) (led_outside scope origin indices)

-- those of some that a type means: the ones that stand in for others, or else those in its block, or
-- else those that its path leads to
abbrev pub meant : Scope → Origin → List ℕ → List ℕ
meant scope origin indices =
    or_else (those_in scope.declarations stand_ins indices) (meant_there scope origin indices)
