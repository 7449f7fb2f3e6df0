-- The variants of an enum.
use Rattle.std.specs.Prelude.{List, [], ◌∷◌, ◌++◌, codes}
use Rattle.std.specs.String.{string_bytes}
use Rattle.facet_solver_shape.specs.Names.{Name}
use Rattle.facet_solver_shape.specs.declared.shape.Variant.{Variant}
use Rattle.facet_solver_tool.specs.CatalogueWords.{struct_kind}
use Rattle.facet_solver_tool.specs.FieldText.{fields_member}
use Rattle.facet_solver_tool.specs.MemberText.{word_member}
use Rattle.facet_solver_tool.specs.QuotedText.{quoted}
use Rattle.facet_solver_tool.specs.SeparatedTexts.{separated}

-- a variant as an object
abbrev pub variant : Variant → Name
variant v =
    codes "{\"name\": " ++ (quoted (string_bytes v.name)
    ++ (word_member (codes "kind") (struct_kind v.kind)
    ++ (fields_member v.fields.items ++ codes "}")))

-- the member that lists variants, where there are any
abbrev pub variants_member : List Variant → Name
variants_member [] = []
variants_member (v ∷ vs) =
    codes ", \"variants\": [" ++ (separated (codes ", ") variant (v ∷ vs) ++ codes "]")
