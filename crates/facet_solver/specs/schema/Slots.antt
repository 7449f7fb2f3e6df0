-- The slots of an index: where a key looks, and which fields stand there.
use Rattle.std.specs.Prelude.{Bool, ◌&&◌, if◌then◌else◌, List, [], ◌∷◌, Option, Some, None}
use Rattle.facet_solver_shape.specs.declared.resolution.key.FieldCategory.{FieldCategory}
use Rattle.facet_solver_shape.specs.declared.resolution.key.FieldCategory.TheVariants.{Flat as FlatCategory, Attribute, Element, Text, Tag, Elements}
use Rattle.facet_solver_shape.specs.Keys.{Key}
use Rattle.facet_solver_shape.specs.Fields.{category_eq, has_name, is_unnamed, takes_any_name, FieldView}
use Rattle.facet_solver_shape.specs.Names.{Name}
use Rattle.facet_solver.specs.declared.build.format.Format.{Format}
use Rattle.facet_solver.specs.declared.build.format.Format.TheVariants.{Flat, Dom}

-- a name in a category, or every name of it
pub record Slot : Type 0 where
  pub category : FieldCategory
  pub name : Option Name

-- all categories
abbrev pub categories : List FieldCategory
categories = FlatCategory ∷ Attribute ∷ Element ∷ Text ∷ Tag ∷ Elements ∷ []

-- the slot of a name in a category
abbrev pub slot_in : Name → FieldCategory → Slot
slot_in name category = record { category = category; name = Some name }

-- whether a field goes by the name, or by any
abbrev pub is_named : Option Name → FieldView → Bool
is_named None f = takes_any_name f.category
is_named (Some name) f = has_name name f

-- whether a field stands in a slot
abbrev pub is_at : Slot → FieldView → Bool
is_at slot f = category_eq slot.category f.category && is_named slot.name f

-- the slot of a name in a category: a category that takes any name has every field of it under the
-- empty one
abbrev pub named_slot : FieldCategory → Name → Slot
named_slot category name = record {
  category = category;
  name = if is_unnamed name && takes_any_name category then None else Some name;
}

-- the slot where a key looks in documents of attributes and elements
abbrev pub dom_slot : Option FieldCategory → Name → Slot
dom_slot None name = record { category = Element; name = Some name }
dom_slot (Some category) name = named_slot category name

-- the slot where a key looks
abbrev pub slot_of : Format → Key → Slot
slot_of Flat key = record { category = FlatCategory; name = Some key.name }
slot_of Dom key = dom_slot key.dom key.name
