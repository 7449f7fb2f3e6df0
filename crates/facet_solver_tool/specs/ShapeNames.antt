-- The names of shapes.
use Rattle.std.specs.Prelude.{ℕ, List, [], slice_get}
use Rattle.std.specs.Option.{option_map_or}
use Rattle.facet_solver_shape.specs.Names.{Name}
use Rattle.facet_solver_types.specs.ShapeViews.{Shape}

-- the name of the shape at an index, or nothing
abbrev pub name_at : List Shape → ℕ → Name
name_at shapes id = option_map_or (λ (s : Shape). s.name) (slice_get shapes id) []
