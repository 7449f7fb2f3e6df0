-- The names of declarations.
use Rattle.std.specs.Prelude.{List, map}
use Rattle.facet_solver_shape.specs.Names.{Name}
use Rattle.facet_solver_types.specs.Understood.{Declaration}

-- the names of declarations, in their order
abbrev pub declared_names : List Declaration → List Name
declared_names declarations = map (λ d. d.name.text) declarations
