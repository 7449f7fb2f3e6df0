-- The keys that the parts of an element are.
use Rattle.std.specs.Prelude.{List, [], map, if◌then◌else◌}
use denote.Bor.{Bor}
use Rattle.facet_solver.specs.Keys.{Key, dom_key}
use Rattle.facet_solver.specs.Names.{Name}
use Rattle.facet_solver.specs.Resolutions.{is_known}
use Rattle.facet_solver.specs.schema.Schema.{SchemaView}
use Rattle.facet_solver.specs.declared.FieldCategory.TheVariants as category
use Rattle.facet_solver_uses.specs.declared.element_to_choice.Part.{Part}
use Rattle.facet_solver_uses.specs.declared.element_to_choice.Part.TheVariants.{Tag, Attribute, Element, Elements, Text}

-- the key that a part is: a tag, a text, and a child that is one of all elements have no name
abbrev pub key_of_part : Part → Key
key_of_part Tag = dom_key category.Tag []
key_of_part (Attribute name) = dom_key category.Attribute name.now
key_of_part (Element name) = dom_key category.Element name.now
key_of_part Elements = dom_key category.Elements []
key_of_part Text = dom_key category.Text []

-- the keys of parts
abbrev pub keys_of_parts : List Part → List Key
keys_of_parts parts = map key_of_part parts

-- a child of a name is that element where some resolution has an element of the name, else it is
-- one of all elements
abbrev pub child_part : SchemaView → Bor Name → Part
child_part schema name =
    if is_known schema.resolutions (dom_key category.Element name.now)
    then Element name else Elements
