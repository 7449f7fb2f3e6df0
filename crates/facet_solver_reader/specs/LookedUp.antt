-- A member that was looked up in an object.
use Rattle.std.specs.Prelude.{◌≡◌, ⊤, List, Option, None, Some}
use Rattle.std.specs.Option.{option_map}
use Rattle.facet_solver_reader.specs.declared.count.tag.LookedUp.{LookedUp}
use Rattle.facet_solver_reader.specs.Documents.{Member, Tree, view}
use Rattle.facet_solver_reader.specs.Objects.{find}

-- its value, if the object has it
abbrev pub value_in : LookedUp → Option Tree
value_in m = option_map (λ d. view d.now) m.value

-- it is what members of an object have under its name
pub record IsLookedUp (members : List Member) (m : LookedUp) : Type 0 where
  pub same : find members m.name.now ≡ value_in m

-- the same of the last that was looked up, if one was
abbrev pub IsLast : List Member → Option LookedUp → Type 0
IsLast members None = ⊤
IsLast members (Some m) = IsLookedUp members m
