-- Why a text was not read, with the path of its file.
use Rattle.std.specs.Prelude.{ℕ, List, [], ◌∷◌, ◌++◌, codes}
use Rattle.std.specs.List.{flat_map}
use Rattle.facet_solver_shape.specs.Names.{Name}
use Rattle.facet_solver_types.specs.declared.error.Invalid.{Invalid}
use Rattle.facet_solver_types.specs.declared.error.TypesError.{TypesError}
use Rattle.facet_solver_types.specs.declared.error.TypesError.TheVariants as error
use Rattle.facet_solver_types.specs.Errors.{error_text, invalid_text}

-- what is wrong at a place of the file of a path
abbrev pub located_line : Name → Invalid → List ℕ
located_line path i = path ++ (codes ":" ++ invalid_text i)

-- what is wrong at a place of the file of a path, behind another in a line of its own
abbrev pub next_located : Name → Invalid → List ℕ
next_located path i = codes "\n" ++ located_line path i

-- what is wrong at places of the file of a path, a line for each
abbrev pub located_lines : Name → List Invalid → List ℕ
located_lines path [] = []
located_lines path (first ∷ others) =
    located_line path first ++ flat_map (next_located path) others

-- why the text in the file of a path was not read
abbrev pub located_text : Name → TypesError → List ℕ
located_text path (error.Invalid found) = located_lines path found.items
located_text path told = path ++ (codes ": " ++ error_text told)
