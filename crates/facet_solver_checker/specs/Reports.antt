-- What a report says of a type.
use Rattle.std.specs.Prelude.{Bool, true, false, List, []}
use Rattle.facet_solver_witnesses.specs.declared.place.Place.{Place}
use Rattle.facet_solver_checker.specs.declared.report.Report.{Report}

-- whether a list is empty
abbrev pub is_nil : List Place → Bool
is_nil [] = true
is_nil _ = false

-- whether a report has no place
abbrev pub is_certain : Report → Bool
is_certain r = is_nil r.places.items
