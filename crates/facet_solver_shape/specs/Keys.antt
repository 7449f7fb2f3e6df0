-- Keys of fields, and their order.
use Rattle.std.specs.Prelude.{ℕ, ◌+◌, Option, Some, None}
use Rattle.std.specs.Ordering.{nat_cmp, on, then_cmp}
use Rattle.std.specs.declared.cmp.Ordering.{Ordering}
use Rattle.std.specs.Cmp.Lexicographic.{slice_cmp}
use Rattle.facet_solver_shape.specs.Names.{Name}
use Rattle.facet_solver_shape.specs.declared.resolution.key.FieldCategory.{FieldCategory}
use Rattle.facet_solver_shape.specs.declared.resolution.key.FieldCategory.TheVariants.{Flat, Attribute, Element, Text, Tag, Elements}
use Rattle.facet_solver_shape.specs.declared.resolution.key.FieldKey.{FieldKey}
use Rattle.facet_solver_shape.specs.declared.resolution.key.FieldKey.TheVariants.{Flat as FlatKey, Dom as DomKey}

-- a key, wherever its name lies: a flat one has no category
pub record Key : Type 0 where
  pub dom : Option FieldCategory
  pub name : Name

-- the index of a category among the six
abbrev pub category_index : FieldCategory → ℕ
category_index Flat = 0
category_index Attribute = 1
category_index Element = 2
category_index Text = 3
category_index Tag = 4
category_index Elements = 5

-- the order of categories
abbrev pub category_cmp : FieldCategory → FieldCategory → Ordering
category_cmp = on category_index nat_cmp

-- where a key stands by its category alone
abbrev pub rank : Option FieldCategory → ℕ
rank None = 0
rank (Some category) = category_index category + 1

-- flat keys first, then by category, then by the bytes of the name
abbrev pub key_cmp : Key → Key → Ordering
key_cmp = then_cmp (on (λ k. rank k.dom) nat_cmp) (on (λ k. k.name) (slice_cmp nat_cmp))

-- the key of a name alone
abbrev pub flat_key : Name → Key
flat_key name = record { dom = None; name = name }

-- the key of a name in a category
abbrev pub dom_key : FieldCategory → Name → Key
dom_key category name = record { dom = Some category; name = name }

-- what a key says
abbrev pub key_of : FieldKey → Key
key_of (FlatKey name) = flat_key name.now
key_of (DomKey category name) = dom_key category name.now

-- the category that a stored key names: none for a field of category Flat
abbrev pub stored_dom : FieldCategory → Option FieldCategory
stored_dom Flat = None
stored_dom category = Some category

-- the key under which a field of a category is kept
abbrev pub stored_key : FieldCategory → Name → Key
stored_key category name = record { dom = stored_dom category; name = name }
