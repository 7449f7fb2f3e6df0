-- Modules, by their names.
use Rattle.std.specs.Prelude.{Bool, codes}
use Rattle.facet_solver_shape.specs.Names.{Name, name_eq}

-- the module whose declarations stand in for others
abbrev pub stand_ins : Name
stand_ins = codes "stand_ins"

-- whether this is its name
abbrev pub is_of_stand_ins : Name → Bool
is_of_stand_ins module_name = name_eq module_name stand_ins
