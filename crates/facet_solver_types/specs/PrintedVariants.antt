-- The variants of an enum.
use Rattle.std.specs.Prelude.{ℕ, List, [], ◌++◌, codes, length, ◌==◌, if◌then◌else◌}
use Rattle.std.specs.List.{enumerate_from, flat_map}
use Rattle.std.specs.String.{string_bytes}
use Rattle.facet_solver_shape.specs.Catalogues.{Catalogue}
use Rattle.facet_solver_shape.specs.Names.{Name, variant_names}
use Rattle.facet_solver_shape.specs.declared.shape.Variant.{Variant}
use Rattle.facet_solver_types.specs.PrintedFields.{body}
use Rattle.facet_solver_types.specs.PrintedNames.{variant_name}
use Rattle.facet_solver_types.specs.PrintedTexts.{is_plain_name, quoted}

-- what stands before a variant of a name, where that isn't the declared one
abbrev pub before_variant : Name → Name
before_variant name =
    if is_plain_name name then [] else codes "#[facet(rename = " ++ (quoted name ++ codes ")] ")

-- a line for a variant of a number, among the names of all
abbrev pub variant_line : Catalogue → List Name → ℕ → Variant → Name
variant_line shapes names number v =
    codes "    " ++ (before_variant (string_bytes v.name)
    ++ (variant_name names number (string_bytes v.name)
    ++ (body shapes (codes "    ") v.kind v.fields.items ++ codes ",\n")))

-- a line for each variant
abbrev pub variant_lines : Catalogue → List Variant → Name
variant_lines shapes vs =
    flat_map (λ p. variant_line shapes (variant_names vs) p.0 p.1) (enumerate_from 0 vs)

-- the variants, in braces
abbrev pub variants_in_braces : Catalogue → List Variant → Name
variants_in_braces shapes vs =
    if length vs == 0 then codes " {}" else codes " {\n" ++ (variant_lines shapes vs ++ codes "}")
