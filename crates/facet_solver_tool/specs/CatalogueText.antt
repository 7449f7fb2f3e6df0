-- The text of a catalogue.
use Rattle.std.specs.Prelude.{ℕ, ◌++◌, codes}
use Rattle.std.specs.Fmt.{decimal}
use Rattle.facet_solver_shape.specs.Catalogues.{Catalogue}
use Rattle.facet_solver_shape.specs.Names.{Name}
use Rattle.facet_solver_tool.specs.ShapeText.{lines}

-- a line for each shape, and below them the root, the builder `auto` and an empty document
abbrev pub catalogue : Catalogue → ℕ → Name
catalogue shapes root =
    codes "{\"shapes\": [" ++ (lines shapes
    ++ (codes "\n],\n\"root\": " ++ (decimal root
    ++ codes ", \"build\": \"auto\",\n\"document\": {}}")))
