-- The texts of a list's elements, with a separator between.
use Rattle.std.specs.Prelude.{List, [], ◌∷◌, ◌++◌}
use Rattle.std.specs.List.{flat_map}
use Rattle.facet_solver_shape.specs.Names.{Name}

-- an element behind a separator
abbrev pub behind : {A : Type 0} → Name → (A → Name) → A → Name
behind separator text x = separator ++ text x

-- elements with a separator between
abbrev pub separated : {A : Type 0} → Name → (A → Name) → List A → Name
separated separator text [] = []
separated separator text (x ∷ xs) = text x ++ flat_map (behind separator text) xs
