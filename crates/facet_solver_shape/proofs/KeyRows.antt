-- Which fields keys mean, and in which order keys stand: the definitions, row by row.
use Rattle.std.proofs.Common.{◌≡◌, true, false, [], Some, None, Less, Equal, Greater, refl, ap, sym, codes}
use Rattle.std.proofs.lemmas.Bool.{false≢true}
use Rattle.facet_solver_shape.specs.declared.resolution.key.FieldCategory.TheVariants.{Flat, Attribute, Element, Text, Tag, Elements}
use Rattle.facet_solver_shape.specs.Fields.{IsStored, key_of_field, means, matches}
use Rattle.facet_solver_shape.specs.Keys.{dom_key, flat_key, key_cmp}
use Rattle.facet_solver_shape.specs.Names.{name_eq}
use Rattle.facet_solver_shape.proofs.Samples.{seen_field}

-- in the flat format the name alone decides
pub flat_rows :
    (means None (codes "a") Flat (codes "a") ≡ true)
    × (means None (codes "b") Flat (codes "a") ≡ false)
    × (means (Some Attribute) (codes "a") Flat (codes "a") ≡ true)
    × (means (Some Text) [] Flat (codes "a") ≡ false)
flat_rows = (refl, refl, refl, refl)

-- a flat key means elements of its name
pub element_rows :
    (means None (codes "a") Element (codes "a") ≡ true)
    × (means None (codes "b") Element (codes "a") ≡ false)
    × (means None (codes "a") Attribute (codes "a") ≡ false)
    × (means None [] Text (codes "a") ≡ false)
element_rows = (refl, refl, refl, refl)

-- a key of a category means fields of that category: of its name, and without one all texts, tags
-- and lists of elements
pub dom_rows :
    (means (Some Attribute) (codes "a") Attribute (codes "a") ≡ true)
    × (means (Some Attribute) (codes "a") Element (codes "a") ≡ false)
    × (means (Some Attribute) (codes "b") Attribute (codes "a") ≡ false)
    × (means (Some Attribute) [] Attribute (codes "a") ≡ false)
    × (means (Some Text) [] Text (codes "a") ≡ true)
    × (means (Some Tag) [] Tag (codes "a") ≡ true)
    × (means (Some Elements) [] Elements (codes "a") ≡ true)
    × (means (Some Text) (codes "b") Text (codes "a") ≡ false)
    × (means (Some Text) [] Tag (codes "a") ≡ false)
dom_rows = (refl, refl, refl, refl, refl, refl, refl, refl, refl)

-- the same of fields
pub matches_rows :
    (matches (flat_key (codes "a")) (seen_field Flat (codes "a")) ≡ true)
    × (matches (flat_key (codes "b")) (seen_field Flat (codes "a")) ≡ false)
    × (matches (dom_key Attribute (codes "a")) (seen_field Attribute (codes "a")) ≡ true)
    × (matches (dom_key Attribute (codes "a")) (seen_field Element (codes "a")) ≡ false)
matches_rows = (refl, refl, refl, refl)

-- a flat field is kept under its name, and others under category and name
pub stored_rows :
    (key_of_field (seen_field Flat (codes "a")) ≡ flat_key (codes "a"))
    × (key_of_field (seen_field Attribute (codes "a")) ≡ dom_key Attribute (codes "a"))
stored_rows = (refl, refl)

-- a field under its own key; and one under another name, and under a name alone
pub is_stored_rows :
    IsStored (flat_key (codes "a"), seen_field Flat (codes "a"))
    × (¬ (IsStored (flat_key (codes "b"), seen_field Flat (codes "a"))))
    × (¬ (IsStored (flat_key (codes "a"), seen_field Attribute (codes "a"))))
is_stored_rows = (
  refl,
  λ same. false≢true (sym (ap (λ k. name_eq k.name (codes "b")) same)),
  λ same. let dom = ap (λ k. k.dom) same in cc,
)

-- flat keys come first, then the category decides, then the name
pub order_rows :
    (key_cmp (flat_key (codes "b")) (dom_key Attribute (codes "a")) ≡ Less)
    × (key_cmp (dom_key Attribute (codes "b")) (dom_key Element (codes "a")) ≡ Less)
    × (key_cmp (flat_key (codes "a")) (flat_key (codes "b")) ≡ Less)
    × (key_cmp (flat_key (codes "b")) (flat_key (codes "a")) ≡ Greater)
    × (key_cmp (flat_key (codes "a")) (flat_key (codes "a")) ≡ Equal)
order_rows = (refl, refl, refl, refl, refl)
