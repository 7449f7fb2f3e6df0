-- From declarations and types to types with their shapes.
use Rattle.std.specs.Prelude.{ℕ, ◌+◌, ◌==◌, Bool, true, false, if◌then◌else◌, List, [], ◌∷◌, ◌++◌, Result, Ok, Err, filter, flat_map, length, map, option_to_list, slice_get}
use Rattle.std.specs.List.{range_with_len}
use Rattle.std.specs.Option.{option_map_or}
use Rattle.facet_solver_shape.specs.Names.{Name}
use Rattle.facet_solver_types.specs.declared.catalogue.parts.Parts as parts
use Rattle.facet_solver_types.specs.Absences.{absences_of}
use Rattle.facet_solver_types.specs.AbsentMembers.{let_absent}
use Rattle.facet_solver_types.specs.Failures.{Failure, needed}
use Rattle.facet_solver_types.specs.Faults.{told}
use Rattle.facet_solver_types.specs.TypeTables.{TypeTable}
use Rattle.facet_solver_types.specs.Links.{ids, needs, place_in}
use Rattle.facet_solver_types.specs.MadeShapes.{shape_of}
use Rattle.facet_solver_types.specs.ShapeFaults.{shape_faults}
use Rattle.facet_solver_types.specs.ShapeViews.{Shape, shapes_view}
use Rattle.facet_solver_types.specs.TypeEntries.{Form, TypeEntry, declared}
use Rattle.facet_solver_types.specs.TypesViews.{DeclaredType, Types, declared_type_view}
use Rattle.facet_solver_types.specs.Understood.{Declaration}
use Rattle.facet_solver_types.specs.Walks.{in_order, is_placed}

-- whether a type is declared
abbrev pub is_declared : Form → Bool
is_declared (declared index types) = true
is_declared form = false

-- the places of those of some types that are declared, the first of which stands at one
abbrev pub declared_from : ℕ → List TypeEntry → List ℕ
declared_from place [] = []
declared_from place (entry ∷ others) =
    (if is_declared entry.form then place ∷ [] else []) ++ declared_from (place + 1) others

-- the places of the types of a table that are declared
abbrev pub declared_places : TypeTable → List ℕ
declared_places table = declared_from 0 table.entries

-- the type at a place, if there is one
abbrev pub entry_at : List TypeEntry → ℕ → List TypeEntry
entry_at entries place = option_to_list (slice_get entries place)

-- the same, each after those of them that it needs, itself or over others
abbrev pub declared_in_order : TypeTable → List (List ℕ) → List ℕ
declared_in_order table needs =
    filter (is_placed (declared_places table)) (in_order needs (declared_places table))

-- types in order: what declarations declare, and before each what else it needs, and then the others
abbrev pub ordered : TypeTable → List (List ℕ) → List TypeEntry
ordered table needs =
    flat_map (entry_at table.entries)
    (in_order needs (declared_in_order table needs ++ range_with_len 0 (length table.entries)))

-- whether the declaration at an index denies unknown members
abbrev pub denies_at : List Declaration → ℕ → Bool
denies_at declarations index =
    option_map_or (λ (d : Declaration). d.denies_unknown) (slice_get declarations index) false

-- whether the declaration at an index is one of some that are one under different conditions
abbrev pub has_forms_at : List Declaration → ℕ → Bool
has_forms_at declarations index =
    option_map_or (λ (d : Declaration). d.has_other_forms) (slice_get declarations index) false

-- a type of this id and form, if it is declared, where ids have an order
abbrev pub declared_by : List Declaration → List Name → Name → Form → List DeclaredType
declared_by declarations order id (declared index types) = record {
  name = id;
  shape = place_in order id;
  has_other_forms = has_forms_at declarations index;
  denies_unknown = denies_at declarations index;
} ∷ []
declared_by declarations order id form = []

-- a type, if it is declared, where ids have an order
abbrev pub declared_type : List Declaration → List Name → TypeEntry → List DeclaredType
declared_type declarations order entry = declared_by declarations order entry.id entry.form

-- those of some types that are declared, where ids have an order
abbrev pub declared_types : List Declaration → List Name → List TypeEntry → List DeclaredType
declared_types declarations order entries = flat_map (declared_type declarations order) entries

-- the shapes of types in order, whose ids are these, whose members may be absent where their types
-- lead to options
abbrev pub shapes_by : List Declaration → List Name → List TypeEntry → List Shape
shapes_by declarations order entries =
    map (let_absent (absences_of declarations order entries))
    (map (shape_of declarations order) entries)

-- types in order, whose ids are these, with a root
abbrev pub types_by : TypeTable → List Name → List TypeEntry → Name → Types
types_by table order entries root = record {
  shapes = shapes_by table.declarations order entries;
  declared = declared_types table.declarations order table.entries;
  root = place_in order root;
}

-- types in order, with a root
abbrev pub types_in : TypeTable → List TypeEntry → Name → Types
types_in table entries root = types_by table (ids entries) entries root

-- the types of a table, which need others so, with a root
abbrev pub types_of : TypeTable → List (List ℕ) → Name → Types
types_of table needs root = types_in table (ordered table needs) root

-- what is seen of types whose shapes are not checked
abbrev pub parts_view : parts.Parts → Types
parts_view p = record {
  shapes = shapes_view p.shapes.items;
  declared = map declared_type_view p.declared.items;
  root = p.root;
}

-- the table of declarations and types
abbrev pub table_of : List Declaration → List TypeEntry → TypeTable
table_of declarations entries =
    record { declarations = declarations; entries = entries; ids = ids entries }

-- the types of a table, which need others so, where they have shapes
abbrev pub shaped : TypeTable → List (List ℕ) → Name → Result Types Failure
shaped table needs root =
    let faults = told (shape_faults table needs) in
    if length faults == 0 then Ok (types_of table needs root) else Err (needed faults)

-- the types of a table, by what they need
abbrev pub table_types : TypeTable → Name → Result Types Failure
table_types table root = shaped table (needs table.ids table.entries) root

-- the types of declarations, with their shapes and a root, or the reasons why there are none
abbrev pub catalogue_of : List Declaration → List TypeEntry → Name → Result Types Failure
catalogue_of declarations entries root = table_types (table_of declarations entries) root
