-- The ids of types: as they are written, where aliases and parameters are followed, and lifetimes
-- and paths dropped.
use Rattle.std.specs.Prelude.{ℕ, ◌==◌, if◌then◌else◌, List, [], ◌∷◌, ◌++◌, Option, Some, None, length, codes}
use Rattle.std.specs.Fmt.{decimal}
use Rattle.std.specs.List.{flat_map}
use Rattle.facet_solver_shape.specs.Names.{Name}
use Rattle.facet_solver_types.specs.Called.{Called}
use Rattle.facet_solver_types.specs.Layers.{Head, same, bound, declared, alias, scalar, dynamic, applied, standard, array, slice, tuple}
use Rattle.facet_solver_types.specs.PrintedTexts as printed
use Rattle.facet_solver_types.specs.Tokens.{Token}

-- the first of some ids
abbrev pub first : List Name → Name
first [] = []
first (id ∷ others) = id

-- the second of some ids
abbrev pub second : List Name → Name
second [] = []
second (id ∷ others) = first others

-- an id behind another
abbrev pub behind_comma : Name → Name
behind_comma id = codes ", " ++ id

-- ids with `, ` between
abbrev pub joined : List Name → Name
joined [] = []
joined (id ∷ others) = id ++ flat_map behind_comma others

-- a token behind another
abbrev pub behind_blank : Token → Name
behind_blank token = codes " " ++ token.text

-- tokens with blanks between
abbrev pub spaced : List Token → Name
spaced [] = []
spaced (token ∷ others) = token.text ++ flat_map behind_blank others

-- what stands behind the types of a tuple: a comma too, where it is one
abbrev pub tuple_end : List Name → Name
tuple_end ids = if length ids == 1 then codes ",)" else codes ")"

-- the id of what a name makes of the types that it takes
abbrev pub applied_id : Name → List Name → Name
applied_id name ids = name ++ (codes "<" ++ (joined ids ++ codes ">"))

-- the id of a type of std, which may take no types
abbrev pub standard_id : Name → List Name → Name
standard_id name ids = if length ids == 0 then name else applied_id name ids

-- what a module is called
abbrev pub module_id : Name → Name
module_id module_name = if length module_name == 0 then codes "crate" else module_name

-- what is called by its name behind so many others of its module
abbrev pub id_behind : ℕ → Name → Name
id_behind number name = if number == 0 then name else decimal number ++ (codes "::" ++ name)

-- what is called by its name in a module, if that is told, behind so many others
abbrev pub id_in : Option Name → ℕ → Name → Name
id_in None number name = name
id_in (Some module_name) number name =
    module_id module_name ++ (codes "::" ++ id_behind number name)

-- the id of a declared type without parameters: its name, raw where it is a keyword, and in its
-- module where that is to be told, with a number where others are told by that
abbrev pub declared_id : Called → Name
declared_id c = id_in c.module_name c.number (printed.declared c.name)

-- the id of a declared type, with the ids of the types that it takes
abbrev pub used_id : Called → List Name → Name
used_id c ids = if length ids == 0 then declared_id c else applied_id (declared_id c) ids

-- the id of a type, by those of the types in it
abbrev pub id_of : Head → List Name → Name
id_of same ids = first ids
id_of (bound id) ids = id
id_of (declared index called) ids = used_id called ids
id_of (alias site parameters written) ids = first ids
id_of (scalar name kind) ids = name
id_of (dynamic name) ids = name
id_of (applied name kind) ids = applied_id name ids
id_of (standard name kind) ids = standard_id name ids
id_of (array len) ids = codes "[" ++ (first ids ++ (codes "; " ++ (spaced len ++ codes "]")))
id_of slice ids = codes "[" ++ (first ids ++ codes "]")
id_of tuple ids = codes "(" ++ (joined ids ++ tuple_end ids)
