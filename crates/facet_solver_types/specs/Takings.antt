-- What a `use` takes, which may decide what a name means.
use Rattle.std.specs.Prelude.{ℕ, Bool, true, false, ◌&&◌, ◌||◌, not, if◌then◌else◌, List, [], filter, slice_get}
use Rattle.std.specs.List.{list_any}
use Rattle.std.specs.Option.{option_map_or}
use Rattle.facet_solver_shape.specs.Names.{Name}
use Rattle.facet_solver_types.specs.Meant.{is_beside, is_here, is_in, is_outside}
use Rattle.facet_solver_types.specs.Modules.{stand_ins}
use Rattle.facet_solver_types.specs.Origins.{Origin}
use Rattle.facet_solver_types.specs.Scopes.{Scope}
use Rattle.facet_solver_types.specs.Understood.{Declaration, Declared, home, elsewhere}

-- whether nothing is declared, but a `use` takes the name
abbrev pub is_taking : Declared → Bool
is_taking home = true
is_taking elsewhere = true
is_taking what = false

-- whether it takes it from elsewhere
abbrev pub is_from_elsewhere : Declared → Bool
is_from_elsewhere elsewhere = true
is_from_elsewhere what = false

-- whether there is such a `use` at an index
abbrev pub is_taking_at : List Declaration → ℕ → Bool
is_taking_at declarations index =
    option_map_or (λ (d : Declaration). is_taking d.declared) (slice_get declarations index) false

-- whether there is one at an index that takes the name from elsewhere
abbrev pub is_from_elsewhere_at : List Declaration → ℕ → Bool
is_from_elsewhere_at declarations index =
    option_map_or (λ (d : Declaration). is_from_elsewhere d.declared)
    (slice_get declarations index) false

-- whether one of some is such a `use`
abbrev pub has_taking : List Declaration → List ℕ → Bool
has_taking declarations indices = list_any (is_taking_at declarations) indices

-- those of some that declare something
abbrev pub those_declared : List Declaration → List ℕ → List ℕ
those_declared declarations indices =
    filter (λ index. not (is_taking_at declarations index)) indices

-- whether there is such a `use` of a module at an index
abbrev pub is_taking_in : List Declaration → Name → ℕ → Bool
is_taking_in declarations module_name index =
    is_taking_at declarations index && is_in declarations module_name index

-- those of some that are such a `use` of a module
abbrev pub takings_in : List Declaration → Name → List ℕ → List ℕ
takings_in declarations module_name indices =
    filter (is_taking_in declarations module_name) indices

-- whether the declaration at an index wins over each `use` in the module of the type: where that is
-- the root; or it stands in for others, or in the block of the type, or in its module and in no
-- block
abbrev pub is_near : Scope → ℕ → Bool
is_near scope index =
    scope.is_root
    || is_in scope.declarations stand_ins index
    || is_beside scope.declarations scope.site.block index
    || (is_outside scope.declarations index
    && is_in scope.declarations scope.site.module_name index)

-- whether one of some does
abbrev pub has_near : Scope → List ℕ → Bool
has_near scope indices = list_any (is_near scope) indices

-- those of the namesakes by which a `use` decides what a name means that some of them declare
abbrev pub deciding : Scope → Origin → List ℕ → List ℕ → List ℕ
deciding scope origin namesakes declared =
    if not (is_here origin) || has_near scope declared then []
    else takings_in scope.declarations scope.site.module_name namesakes

-- whether one of some takes the name from elsewhere
abbrev pub has_elsewhere : List Declaration → List ℕ → Bool
has_elsewhere declarations takings = list_any (is_from_elsewhere_at declarations) takings
