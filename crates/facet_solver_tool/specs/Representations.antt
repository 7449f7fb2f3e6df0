-- How the enums of a catalogue are written.
use Rattle.std.specs.Prelude.{◌++◌, ℕ, List, [], codes, flat_map, slice_get}
use Rattle.std.specs.Option.{option_map_or}
use Rattle.std.specs.String.{string_bytes}
use Rattle.facet_solver_shape.specs.declared.shape.Shape.{Shape}
use Rattle.facet_solver_shape.specs.declared.shape.ShapeKind.{ShapeKind}
use Rattle.facet_solver_shape.specs.declared.shape.ShapeKind.TheVariants.{Enum}
use Rattle.facet_solver_shape.specs.Catalogues.{Catalogue}
use Rattle.facet_solver_shape.specs.Representation.{Repr, flattened, externally_tagged, internally_tagged, adjacently_tagged, repr_of_shape}

-- the text of how an enum is written
abbrev pub repr_text : Repr → List ℕ
repr_text flattened = codes "untagged"
repr_text externally_tagged = codes "externally tagged"
repr_text (internally_tagged tag) = codes "internally tagged by '" ++ (tag ++ codes "'")
repr_text (adjacently_tagged tag content) =
    codes "adjacently tagged by '" ++ (tag ++ (codes "' and '" ++ (content ++ codes "'")))

-- the line of an enum, behind a line feed
abbrev pub line_of_enum : Shape → List ℕ
line_of_enum s =
    codes "\n" ++ (string_bytes s.type_identifier
    ++ (codes ": " ++ repr_text (repr_of_shape s)))

-- the line of a shape of a kind: only that of an enum
abbrev pub line_of_kind : Shape → ShapeKind → List ℕ
line_of_kind s (Enum variants) = line_of_enum s
line_of_kind s _ = []

-- the line of a shape
abbrev pub enum_line : Shape → List ℕ
enum_line s = line_of_kind s s.kind

-- the line of the shape at an index
abbrev pub enum_line_at : Catalogue → ℕ → List ℕ
enum_line_at shapes index = option_map_or enum_line (slice_get shapes index) []

-- a line for each enum of a catalogue, in its order
abbrev pub enum_lines : Catalogue → List ℕ
enum_lines shapes = flat_map enum_line shapes
