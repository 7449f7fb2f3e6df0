-- Names that are declared, without where they stand.
use Rattle.std.specs.Prelude.{List, map}
use Rattle.facet_solver_shape.specs.Names.{Name}
use Rattle.facet_solver_types.specs.Named.{Named}

-- what names say
abbrev pub texts : List Named → List Name
texts names = map (λ n. n.name) names
