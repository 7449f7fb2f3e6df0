-- What is seen of names with their places.
use Rattle.std.specs.Prelude.{List}
use Rattle.facet_solver_shape.specs.Names.{Name, names_of}
use Rattle.facet_solver_types.specs.declared.name_places.NamePlaces.{NamePlaces}

-- the names in their order
abbrev pub names_in : NamePlaces → List Name
names_in places = names_of places.names.items
