-- What names an ambiguity in a file of accepted ones.
use Rattle.std.specs.Prelude.{◌++◌, List, Option, Some, None, codes}
use Rattle.std.specs.Borrow.{Bor}
use Rattle.facet_solver_reader.specs.declared.read_error.TypeName.{TypeName}
use Rattle.facet_solver_shape.specs.Names.{Name}
use Rattle.facet_solver_witnesses.specs.declared.ambiguity.Ambiguity.{Ambiguity}
use Rattle.facet_solver_tool.specs.QuotedText.{between_quotes, quoted}
use Rattle.facet_solver_tool.specs.SeparatedTexts.{separated}

-- a type, or a variant of it, as a string
abbrev pub full_name_of : Name → Option (Bor Name) → Name
full_name_of name None = quoted name
full_name_of name (Some variant) =
    codes "\"" ++ (between_quotes name
    ++ (codes "::" ++ (between_quotes variant.now ++ codes "\"")))

-- the same of a name
abbrev pub full_name : TypeName → Name
full_name n = full_name_of n.name.now n.variant

-- names with commas between
abbrev pub full_names : List TypeName → Name
full_names names = separated (codes ", ") full_name names

-- the members of the line of JSON for an ambiguity that say its place and its variants
abbrev pub key : Ambiguity → Name
key a =
    codes "{\"owner\": " ++ (full_name a.owner
    ++ (codes ", \"field\": " ++ (quoted a.field.now
    ++ (codes ", \"variants\": [" ++ (full_names a.variants.items
    ++ codes "]")))))
