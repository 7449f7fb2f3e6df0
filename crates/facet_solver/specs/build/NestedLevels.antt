-- The names that a walk over nested key paths has left, level by level. Only private contracts and
-- proofs speak of them.
use denote.Bor.{Bor}
use Rattle.std.specs.Prelude.{List, [], ◌∷◌}
use Rattle.std.specs.Cow.{cow_value}
use Rattle.std.specs.FinSet as set
use Rattle.std.specs.declared.borrow.Cow.{Cow}
use Rattle.facet_solver_shape.specs.Names.{Name}
use Rattle.facet_solver.specs.build.Nested.{KeyPaths, Under, named}
use Rattle.facet_solver.specs.build.NestedNames.{Names, paths_of_names}
use Rattle.facet_solver.specs.declared.build.nested.names_left.Level.{Level}
use Rattle.facet_solver.specs.declared.build.nested.names_left.NamesLeft.{NamesLeft}
use Rattle.facet_solver.specs.declared.build.nested.names_left.NamesLeft.TheVariants.{OfEntry, Together}
use Rattle.facet_solver.specs.declared.build.nested.shapes_behind.ShapesBehind.{ShapesBehind}

-- a name with the shapes behind it, which are borrowed or owned
abbrev pub shown : Bor Name × Cow ShapesBehind → Bor Name × ShapesBehind
shown e = (e.0, cow_value e.1)

-- the names that are left
abbrev pub names_left : NamesLeft → Names
names_left (OfEntry left) = left.now
names_left (Together left) = left.items

-- the key paths that levels stand for, the outermost first: behind the name of each are those of
-- the levels inside it, and the innermost has these paths inside
unfoldable pub paths_of_levels : Under → List Level → KeyPaths → KeyPaths
paths_of_levels under [] inside = inside
paths_of_levels under (level ∷ levels) inside =
    set.union (named level.name.now (paths_of_levels under levels inside))
    (paths_of_names under (names_left level.beside))
