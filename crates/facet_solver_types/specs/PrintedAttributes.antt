-- Attributes before a declaration, a field or a variant.
use Rattle.std.specs.Prelude.{Bool, true, false, List, [], ◌∷◌, ◌++◌, Option, Some, None, option_map, codes, if◌then◌else◌}
use Rattle.std.specs.declared.string.String.{String}
use Rattle.std.specs.declared.alloc.Global.{Global}
use Rattle.std.specs.List.{flat_map}
use Rattle.std.specs.Option.{option_to_list}
use Rattle.std.specs.String.{string_bytes}
use Rattle.facet_solver_shape.specs.Names.{Name}
use Rattle.facet_solver_shape.specs.declared.shape.Field.{Field}
use Rattle.facet_solver_shape.specs.declared.shape.DomMark.{DomMark}
use Rattle.facet_solver_shape.specs.declared.shape.DomMark.TheVariants as marks
use Rattle.facet_solver_types.specs.declared.display.attribute.Attribute as declared
use Rattle.facet_solver_types.specs.declared.display.attribute.Attribute.TheVariants.{Word, WithText, WithType}
use Rattle.facet_solver_types.specs.PrintedTexts.{quoted}

-- one that says something
abbrev pub saying : Name → Name → Name
saying word said = word ++ (codes " = " ++ said)

-- the text of an attribute
abbrev pub attribute : declared.Attribute → Name
attribute (Word word) = word.now
attribute (WithText word said) = saying word.now (quoted said.now)
attribute (WithType word name) = saying word.now name.now

-- a word, where a flag is set
abbrev pub flag : Bool → Name → Option Name
flag is_set word = if is_set then Some word else None

-- one that says a text, where there is one
abbrev pub with_text : Name → Option (String Global) → Option Name
with_text word = option_map (λ said. saying word (quoted (string_bytes said)))

-- the mark of a field for a part of a document tree
abbrev pub dom : DomMark → Option Name
dom marks.None = None
dom marks.Attribute = Some (codes "xml::attribute")
dom marks.Element = Some (codes "xml::element")
dom marks.Text = Some (codes "xml::text")
dom marks.Tag = Some (codes "xml::tag")
dom marks.Elements = Some (codes "xml::elements")

-- one of a list, behind what opens the list or divides it from the one before
abbrev pub one_of_list : Bool → Name → Name
one_of_list is_first one = (if is_first then codes "#[facet(" else codes ", ") ++ one

-- a list that isn't closed
abbrev pub opened : List Name → Name
opened [] = []
opened (first ∷ rest) = codes "#[facet(" ++ first ++ flat_map (λ one. codes ", " ++ one) rest

-- whether there is none
abbrev pub is_empty : List Name → Bool
is_empty [] = true
is_empty (first ∷ rest) = false

-- what closes a list that has any, and stands behind it
abbrev pub closing : List Name → Name → Name
closing [] end = []
closing (first ∷ rest) end = codes ")]" ++ end

-- those of a list that there are
abbrev pub present : List (Option Name) → List Name
present = flat_map option_to_list

-- those that there are, and what stands behind them; nothing if there is none
abbrev pub attributes : List (Option Name) → Name → Name
attributes list end = opened (present list) ++ closing (present list) end

-- those of a field
abbrev pub of_field : Field → List (Option Name)
of_field f =
    flag f.flattened (codes "flatten") ∷ flag f.has_default (codes "default")
    ∷ with_text (codes "rename") f.rename
    ∷ flag f.metadata (codes "metadata = \"metadata\"") ∷ dom f.dom ∷ []

-- what stands before a field
abbrev pub before_field : Field → Name
before_field f = attributes (of_field f) (codes " ")
