-- Lines that tell something of types.
use Rattle.std.specs.Prelude.{◌++◌, ℕ, List, codes, flat_map}
use Rattle.facet_solver_shape.specs.Names.{Name}

-- the line of a type, behind a line feed: its name and a note
abbrev pub note_line : List ℕ → Name → List ℕ
note_line note name = codes "\n" ++ (name ++ note)

-- the lines of types
abbrev pub note_lines : List ℕ → List Name → List ℕ
note_lines note names = flat_map (note_line note) names
