-- The fields of a struct or of a variant.
use Rattle.std.specs.Prelude.{ℕ, List, [], ◌∷◌, ◌++◌, codes, length, slice_get, ◌==◌, if◌then◌else◌}
use Rattle.std.specs.List.{flat_map}
use Rattle.std.specs.Option.{option_map_or}
use Rattle.std.specs.String.{string_bytes}
use Rattle.facet_solver_shape.specs.Catalogues.{Catalogue}
use Rattle.facet_solver_shape.specs.Names.{Name}
use Rattle.facet_solver_shape.specs.declared.shape.Field.{Field}
use Rattle.facet_solver_shape.specs.declared.shape.StructKind.{StructKind}
use Rattle.facet_solver_shape.specs.declared.shape.StructKind.TheVariants.{Unit as UnitKind, TupleStruct, Struct, Tuple}
use Rattle.facet_solver_types.specs.PrintedAttributes.{before_field}
use Rattle.facet_solver_types.specs.PrintedTexts.{declared}

-- the type at an index, by its identifier
abbrev pub type_at : Catalogue → ℕ → Name
type_at shapes id = option_map_or (λ s. string_bytes s.type_identifier) (slice_get shapes id) []

-- a line for a field with a name
abbrev pub field_line : Catalogue → Name → Field → Name
field_line shapes indent f =
    indent ++ (codes "    " ++ (before_field f
    ++ (declared (string_bytes f.name) ++ (codes ": " ++ (type_at shapes f.shape ++ codes ",\n")))))

-- a field without a name
abbrev pub unnamed : Catalogue → Field → Name
unnamed shapes f = before_field f ++ type_at shapes f.shape

-- one behind a comma
abbrev pub later_unnamed : Catalogue → Field → Name
later_unnamed shapes f = codes ", " ++ unnamed shapes f

-- fields without a name, with commas between
abbrev pub all_unnamed : Catalogue → List Field → Name
all_unnamed shapes [] = []
all_unnamed shapes (f ∷ fs) = unnamed shapes f ++ flat_map (later_unnamed shapes) fs

-- fields with a name, in braces
abbrev pub in_braces : Catalogue → Name → List Field → Name
in_braces shapes indent fields =
    if length fields == 0 then codes " {}"
    else codes " {\n" ++ (flat_map (field_line shapes indent) fields ++ (indent ++ codes "}"))

-- fields without a name, in parentheses
abbrev pub in_parentheses : Catalogue → List Field → Name
in_parentheses shapes fields = codes "(" ++ (all_unnamed shapes fields ++ codes ")")

-- the fields as they stand behind a name
abbrev pub body : Catalogue → Name → StructKind → List Field → Name
body shapes indent UnitKind fields = []
body shapes indent Struct fields = in_braces shapes indent fields
body shapes indent TupleStruct fields = in_parentheses shapes fields
body shapes indent Tuple fields = in_parentheses shapes fields
