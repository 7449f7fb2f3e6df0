-- The types that types need, by their places.
use Rattle.std.specs.Prelude.{ℕ, List, [], ◌∷◌, map}
use Rattle.std.specs.List.{flat_map, position_or_len}
use Rattle.std.specs.String.{string_bytes}
use Rattle.std.specs.declared.string.String.{String}
use Rattle.std.specs.declared.vec.Vec.{Vec}
use Rattle.std.specs.declared.alloc.Global.{Global}
use Rattle.facet_solver_shape.specs.Names.{Name, name_eq}
use Rattle.facet_solver_types.specs.TypeEntries.{Form, TypeEntry, option, array, tuple, standard, declared}

-- the ids of types
abbrev pub ids : List TypeEntry → List Name
ids entries = map (λ (e : TypeEntry). e.id) entries

-- the place of a name among names, or their number where it is none of them
abbrev pub place_in : List Name → Name → ℕ
place_in names name = position_or_len (λ other. name_eq other name) names

-- the places of names
abbrev pub places_in : List Name → List Name → List ℕ
places_in names wanted = map (place_in names) wanted

-- the types that a type needs: those of its fields or variants, its proxy, the inside of an option
-- or an array
abbrev pub needed : Form → List Name
needed (option inside) = inside ∷ []
needed (array inside) = inside ∷ []
needed (tuple types) = types
needed (standard kind types) = types
needed (declared index types) = flat_map (λ names. names) types
needed form = []

-- the places of the types that each of some types needs
abbrev pub needs : List Name → List TypeEntry → List (List ℕ)
needs names entries = map (λ (e : TypeEntry). places_in names (needed e.form)) entries

-- what is seen of links from types to types
abbrev pub links_view : List (Vec ℕ Global) → List (List ℕ)
links_view links = map (λ (l : Vec ℕ Global). l.items) links

-- what is seen of lists of names
abbrev pub names_view : List (Vec (String Global) Global) → List (List Name)
names_view lists = map (λ (l : Vec (String Global) Global). map string_bytes l.items) lists
