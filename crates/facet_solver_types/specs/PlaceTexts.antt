-- The text of a place.
use Rattle.std.specs.Prelude.{ℕ, List, ◌++◌, codes}
use Rattle.std.specs.Fmt.{decimal}
use Rattle.facet_solver_types.specs.declared.place.Place.{Place}

-- line and column
abbrev pub place_text : Place → List ℕ
place_text place = decimal place.line ++ (codes ":" ++ decimal place.column)
