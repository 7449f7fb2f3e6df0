-- The fields of a struct or of a variant.
use Rattle.std.specs.Prelude.{List, [], ◌∷◌, ◌++◌, codes}
use Rattle.std.specs.Fmt.{decimal}
use Rattle.std.specs.String.{string_bytes}
use Rattle.facet_solver_shape.specs.Names.{Name}
use Rattle.facet_solver_shape.specs.declared.shape.Field.{Field}
use Rattle.facet_solver_tool.specs.CatalogueWords.{dom_mark}
use Rattle.facet_solver_tool.specs.MemberText.{flag_member, text_member, word_member}
use Rattle.facet_solver_tool.specs.QuotedText.{quoted}
use Rattle.facet_solver_tool.specs.SeparatedTexts.{separated}

-- the members of a field behind its name and its shape
abbrev pub field_members : Field → Name
field_members f =
    text_member (codes "rename") f.rename ++ (flag_member (codes "flatten") f.flattened
    ++ (flag_member (codes "default") f.has_default
    ++ (flag_member (codes "metadata") f.metadata
    ++ word_member (codes "dom") (dom_mark f.dom))))

-- a field as an object
abbrev pub field : Field → Name
field f =
    codes "{\"name\": " ++ (quoted (string_bytes f.name)
    ++ (codes ", \"shape\": " ++ (decimal f.shape ++ (field_members f ++ codes "}"))))

-- the member that lists fields, where there are any
abbrev pub fields_member : List Field → Name
fields_member [] = []
fields_member (f ∷ fs) =
    codes ", \"fields\": [" ++ (separated (codes ", ") field (f ∷ fs) ++ codes "]")
