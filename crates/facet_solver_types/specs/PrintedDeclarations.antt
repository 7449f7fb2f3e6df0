-- A catalogue as declarations.
use Rattle.std.specs.Prelude.{ℕ, Bool, false, List, [], ◌∷◌, ◌++◌, Option, option_map, is_some, codes, length, slice_get, ◌==◌, ◌&&◌, not, if◌then◌else◌}
use Rattle.std.specs.List.{flat_map}
use Rattle.std.specs.Option.{option_map_or}
use Rattle.std.specs.String.{string_bytes}
use Rattle.facet_solver_shape.specs.Catalogues.{Catalogue}
use Rattle.facet_solver_shape.specs.Names.{Name}
use Rattle.facet_solver_shape.specs.declared.shape.Field.{Field}
use Rattle.facet_solver_shape.specs.declared.shape.Shape.{Shape}
use Rattle.facet_solver_shape.specs.declared.shape.ShapeKind.{ShapeKind}
use Rattle.facet_solver_shape.specs.declared.shape.ShapeKind.TheVariants as kinds
use Rattle.facet_solver_shape.specs.declared.shape.StructKind.{StructKind}
use Rattle.facet_solver_shape.specs.declared.shape.StructKind.TheVariants.{TupleStruct, Struct, Tuple}
use Rattle.facet_solver_shape.specs.declared.shape.Variant.{Variant}
use Rattle.facet_solver_types.specs.PrintedAttributes.{attributes, flag, saying, with_text}
use Rattle.facet_solver_types.specs.PrintedFields.{body, type_at}
use Rattle.facet_solver_types.specs.PrintedVariants.{variants_in_braces}

-- whether a kind is a struct of one field without a name
abbrev pub is_newtype : ShapeKind → Bool
is_newtype (kinds.Struct TupleStruct fields) = length fields.items == 1
is_newtype _ = false

-- whether a declaration has to say that it stands for another shape
abbrev pub is_transparent : Shape → Bool
is_transparent s = is_some s.inner && not (is_newtype s.kind)

-- the type that a shape is read and written as, where there is one
abbrev pub proxy : Catalogue → Option ℕ → Option Name
proxy shapes = option_map (λ id. saying (codes "proxy") (type_at shapes id))

-- the attributes of a declaration
abbrev pub of_shape : Catalogue → Shape → List (Option Name)
of_shape shapes s =
    with_text (codes "tag") s.tag ∷ with_text (codes "content") s.content
    ∷ flag s.untagged (codes "untagged") ∷ flag (is_transparent s) (codes "transparent")
    ∷ proxy shapes s.proxy ∷ flag s.metadata_container (codes "metadata_container") ∷ []

-- what stands before a declaration, on a line of its own
abbrev pub before_declaration : Catalogue → Shape → Name
before_declaration shapes s = attributes (of_shape shapes s) (codes "\n")

-- what stands behind the fields of a struct
abbrev pub end_of : StructKind → Name
end_of Struct = codes "\n"
end_of _ = codes ";\n"

-- the declaration of a struct
abbrev pub struct_declaration : Catalogue → Shape → StructKind → List Field → Name
struct_declaration shapes s kind fields =
    before_declaration shapes s ++ (codes "struct " ++ (string_bytes s.type_identifier
    ++ (body shapes [] kind fields ++ end_of kind)))

-- the declaration of an enum
abbrev pub enum_declaration : Catalogue → Shape → List Variant → Name
enum_declaration shapes s variants =
    before_declaration shapes s ++ (codes "enum " ++ (string_bytes s.type_identifier
    ++ (variants_in_braces shapes variants ++ codes "\n")))

-- the declaration of a shape that is read and written as another, where it is
abbrev pub proxy_declaration : Catalogue → Shape → Name
proxy_declaration shapes s =
    if is_some s.proxy
    then before_declaration shapes s ++ (codes "struct " ++ (string_bytes s.type_identifier
    ++ codes ";\n"))
    else []

-- the declaration of a shape of a kind, where it has one
abbrev pub declaration_of : Catalogue → Shape → ShapeKind → Name
declaration_of shapes s (kinds.Struct Tuple fields) = []
declaration_of shapes s (kinds.Struct kind fields) = struct_declaration shapes s kind fields.items
declaration_of shapes s (kinds.Enum variants) = enum_declaration shapes s variants.items
declaration_of shapes s kinds.Other = proxy_declaration shapes s
declaration_of shapes s _ = []

-- the declaration of a shape, where it has one
abbrev pub declaration : Catalogue → Shape → Name
declaration shapes s = declaration_of shapes s s.kind

-- that of the shape at an index
abbrev pub declaration_at : Catalogue → ℕ → Name
declaration_at shapes index = option_map_or (declaration shapes) (slice_get shapes index) []

-- a catalogue as declarations, in its order
abbrev pub declarations : Catalogue → Name
declarations shapes = flat_map (declaration shapes) shapes
