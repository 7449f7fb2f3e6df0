-- Why types have no shapes.
use Rattle.std.specs.Prelude.{ℕ, ◌+◌, Bool, if◌then◌else◌, List, [], ◌∷◌, ◌++◌, Option, Some, None, slice_get}
use Rattle.std.specs.Option.{option_map_or}
use Rattle.facet_solver_shape.specs.Names.{Name}
use Rattle.facet_solver_types.specs.declared.fault.Fault.{Fault}
use Rattle.facet_solver_types.specs.declared.fault.Fault.TheVariants.{At}
use Rattle.facet_solver_types.specs.declared.problem.Problem.TheVariants.{Shape}
use Rattle.facet_solver_types.specs.declared.shape_problem.ShapeProblem.TheVariants.{HoldsItself, NoMembers}
use Rattle.facet_solver_types.specs.TypeEntries.{Form, TypeEntry, declared}
use Rattle.facet_solver_types.specs.TypeTables.{TypeTable, flattens}
use Rattle.facet_solver_types.specs.Understood.{Declaration, Declared, DeclaredField, DeclaredVariant, enum, struct}
use Rattle.facet_solver_types.specs.Walks.{is_marked, reached}

-- the fault of `flatten` at an offset, if it stands there, before a type that may not have it
abbrev pub flatten_faults : Option ℕ → Bool → List Fault
flatten_faults None may = []
flatten_faults (Some offset) may = if may then [] else At offset (Shape NoMembers) ∷ []

-- of a field of this type
abbrev pub field_faults : TypeTable → DeclaredField → Name → List Fault
field_faults table field id = flatten_faults field.flattened (flattens table id)

-- of fields of these types
abbrev pub fields_faults : TypeTable → List DeclaredField → List Name → List Fault
fields_faults table [] types = []
fields_faults table (field ∷ fields) [] = []
fields_faults table (field ∷ fields) (id ∷ types) =
    field_faults table field id ++ fields_faults table fields types

-- of variants whose fields have these types
abbrev pub variants_faults : TypeTable → List DeclaredVariant → List (List Name) → List Fault
variants_faults table [] types = []
variants_faults table (variant ∷ variants) [] = []
variants_faults table (variant ∷ variants) (types ∷ others) =
    fields_faults table variant.fields types ++ variants_faults table variants others

-- of what is declared, with these types
abbrev pub members_faults : TypeTable → Declared → List (List Name) → List Fault
members_faults table (struct kind fields is_transparent says_so is_container) (types ∷ others) =
    fields_faults table fields types
members_faults table (enum variants tagging) types = variants_faults table variants types
members_faults table other types = []

-- of the type at a place whose name stands at an offset: it may not lead to itself
abbrev pub itself_faults : List (List ℕ) → ℕ → ℕ → List Fault
itself_faults needs place offset =
    if is_marked (reached needs place) place then At offset (Shape HoldsItself) ∷ [] else []

-- of a declaration, whose type stands at a place and has these types in it
abbrev pub declaration_faults
    : TypeTable → List (List ℕ) → ℕ → List (List Name) → Declaration → List Fault
declaration_faults table needs place types d =
    itself_faults needs place d.name.offset ++ members_faults table d.declared types

-- of a declaration, if there is one
abbrev pub found_faults
    : TypeTable → List (List ℕ) → ℕ → List (List Name) → Option Declaration → List Fault
found_faults table needs place types found =
    option_map_or (declaration_faults table needs place types) found []

-- of the type at a place, if it is declared
abbrev pub type_faults : TypeTable → List (List ℕ) → ℕ → Form → List Fault
type_faults table needs place (declared index types) =
    found_faults table needs place types (slice_get table.declarations index)
type_faults table needs place form = []

-- of types, the first of which stands at a place
abbrev pub faults_from : TypeTable → List (List ℕ) → ℕ → List TypeEntry → List Fault
faults_from table needs place [] = []
faults_from table needs place (entry ∷ others) =
    type_faults table needs place entry.form ++ faults_from table needs (place + 1) others

-- of all types
abbrev pub shape_faults : TypeTable → List (List ℕ) → List Fault
shape_faults table needs = faults_from table needs 0 table.entries
