-- The shapes of a catalogue.
use Rattle.std.specs.Prelude.{ℕ, zero, suc, [], ◌++◌, Some, codes, slice_get}
use Rattle.std.specs.Option.{option_map_or}
use Rattle.std.specs.String.{string_bytes}
use Rattle.facet_solver_shape.specs.Catalogues.{Catalogue}
use Rattle.facet_solver_shape.specs.Names.{Name}
use Rattle.facet_solver_shape.specs.declared.shape.Shape.{Shape}
use Rattle.facet_solver_shape.specs.declared.shape.ShapeKind.{ShapeKind}
use Rattle.facet_solver_shape.specs.declared.shape.ShapeKind.TheVariants as kinds
use Rattle.facet_solver_tool.specs.CatalogueWords.{scalar_type, shape_kind, struct_kind}
use Rattle.facet_solver_tool.specs.FieldText.{fields_member}
use Rattle.facet_solver_tool.specs.MemberText.{flag_member, index_member, text_member, word_member}
use Rattle.facet_solver_tool.specs.QuotedText.{quoted}
use Rattle.facet_solver_tool.specs.SeparatedTexts.{separated}
use Rattle.facet_solver_tool.specs.VariantText.{variants_member}

-- the members of a shape of any kind, behind the word for its kind
abbrev pub shape_members : Shape → Name
shape_members s =
    index_member (codes "inner") s.inner ++ (index_member (codes "proxy") s.proxy
    ++ (text_member (codes "tag") s.tag ++ (text_member (codes "content") s.content
    ++ (flag_member (codes "untagged") s.untagged
    ++ flag_member (codes "metadata") s.metadata_container))))

-- the member that says the one shape of a kind
abbrev pub of_member : ℕ → Name
of_member of = index_member (codes "of") (Some of)

-- the members that say what a shape is made of
abbrev pub kind_members : ShapeKind → Name
kind_members (kinds.Scalar scalar) = word_member (codes "scalar") (Some (scalar_type scalar))
kind_members (kinds.Struct kind fields) =
    word_member (codes "struct") (struct_kind kind) ++ fields_member fields.items
kind_members (kinds.Enum variants) = variants_member variants.items
kind_members (kinds.Option of) = of_member of
kind_members (kinds.Pointer of) = index_member (codes "of") of
kind_members (kinds.List of) = of_member of
kind_members (kinds.Array of) = of_member of
kind_members (kinds.Slice of) = of_member of
kind_members (kinds.Set of) = of_member of
kind_members (kinds.Map key value) =
    index_member (codes "key") (Some key) ++ index_member (codes "value") (Some value)
kind_members kinds.DynamicValue = []
kind_members kinds.Other = []

-- a shape as an object
abbrev pub shape : Shape → Name
shape s =
    codes "{\"id\": " ++ (quoted (string_bytes s.type_identifier)
    ++ (codes ", \"kind\": \"" ++ (shape_kind s.kind ++ (codes "\""
    ++ (shape_members s ++ (kind_members s.kind ++ codes "}"))))))

-- a shape on a line of its own
abbrev pub line : Shape → Name
line s = codes "\n " ++ shape s

-- what divides the line at an index from what stands before it
abbrev pub divider : ℕ → Name
divider zero = []
divider (suc index) = codes ","

-- the line of the shape at an index, behind what divides it from what stands before it
abbrev pub line_at : Catalogue → ℕ → Name
line_at shapes index =
    option_map_or (λ s. divider index ++ line s) (slice_get shapes index) []

-- a line for each shape
abbrev pub lines : Catalogue → Name
lines = separated (codes ",") line
