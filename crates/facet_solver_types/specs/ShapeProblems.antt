-- The text of why types have no shapes.
use Rattle.std.specs.Prelude.{ℕ, List, ◌++◌, codes}
use Rattle.facet_solver_types.specs.declared.shape_problem.ShapeProblem.{ShapeProblem}
use Rattle.facet_solver_types.specs.declared.shape_problem.ShapeProblem.TheVariants.{HoldsItself, NoMembers}

-- what a flattened field takes
abbrev pub flattened_text : List ℕ
flattened_text =
    codes "' takes a struct with named fields, an enum, a map, a dynamic value, or an option of one"

-- why types have no shapes, where this is met
abbrev pub shape_problem_text : ShapeProblem → List ℕ → List ℕ
shape_problem_text HoldsItself met =
    codes "'" ++ (met ++ codes "' holds itself; put it in a Box or a Vec")
shape_problem_text NoMembers met = codes "'" ++ (met ++ flattened_text)
