-- The faults of what a root needs.
use Rattle.std.specs.Prelude.{ℕ, List, [], ◌++◌, flat_map, slice_get}
use Rattle.std.specs.Option.{option_map_or}
use Rattle.facet_solver_types.specs.declared.fault.Fault.{Fault}
use Rattle.facet_solver_types.specs.Named.{name_faults}
use Rattle.facet_solver_types.specs.Understood.{Declaration}
use Rattle.facet_solver_types.specs.UsedTypes.{use_types}
use Rattle.facet_solver_types.specs.Uses.{Use}

-- the faults of the types that a use mentions
abbrev pub type_faults : List Declaration → Use → List Fault
type_faults declarations used = (use_types declarations used).faults

-- the faults of a declaration itself: of its attributes, its fields and its variants, and of names
-- that stand twice in it
abbrev pub own_faults : Declaration → List Fault
own_faults declaration = declaration.faults ++ name_faults declaration.declared

-- the faults of the declaration at an index itself
abbrev pub faults_at : List Declaration → ℕ → List Fault
faults_at declarations index = option_map_or own_faults (slice_get declarations index) []

-- the faults of a use: of its declaration, and of the types that it mentions
abbrev pub use_faults : List Declaration → Use → List Fault
use_faults declarations used =
    faults_at declarations used.index ++ type_faults declarations used

-- the faults of uses
abbrev pub all_faults : List Declaration → List Use → List Fault
all_faults declarations uses = flat_map (use_faults declarations) uses
