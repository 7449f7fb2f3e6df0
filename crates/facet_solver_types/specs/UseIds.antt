-- The ids of uses.
use Rattle.std.specs.Prelude.{◌≡◌, List}
use Rattle.std.specs.BTreeSet.{BTreeSet, contains_text}
use Rattle.std.specs.declared.alloc.Global.{Global}
use Rattle.std.specs.declared.string.String.{String}
use Rattle.facet_solver_shape.specs.Names.{Name}
use Rattle.facet_solver_types.specs.UsedTypes.{has_use}
use Rattle.facet_solver_types.specs.Uses.{Use}

-- a set has an id if one of some uses has it
abbrev pub AreIdsOf : BTreeSet (String Global) → List Use → Type 0
AreIdsOf ids uses = (id : Name) → contains_text ids id ≡ has_use id uses
