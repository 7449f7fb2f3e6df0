-- Fields of a resolution: which keys mean them, the table that keeps them, and the first that
-- passes a test.
use Rattle.std.specs.Prelude.{Bool, true, false, ◌&&◌, ◌||◌, [], ◌∷◌, Option, Some, None, nat_eq, List, map, ◌≡◌, ◌≢◌, MatchOption, ℕ}
use Rattle.facet_solver_shape.specs.declared.resolution.key.FieldCategory.{FieldCategory}
use Rattle.facet_solver_shape.specs.declared.resolution.key.FieldCategory.TheVariants.{Flat, Element, Text, Tag, Elements}
use Rattle.facet_solver_shape.specs.Names.{Name, name_eq}
use Rattle.facet_solver_shape.specs.Keys.{Key, category_index, key_cmp, key_of, stored_key}
use Rattle.std.specs.List.{AllByRecursion}
use Rattle.std.specs.List.Sorted.{IsStrictlySortedBy}
use Rattle.facet_solver_shape.specs.declared.resolution.key.FieldKey.{FieldKey}
use Rattle.std.specs.declared.cmp.Ordering.TheVariants.{Less}
use Rattle.std.specs.FinMap as finite
use Rattle.facet_solver_shape.specs.declared.shape.Field.{Field}
use Rattle.facet_solver_shape.specs.Paths.{Segment}

-- a field of a resolution
pub record FieldView : Type 0 where
  pub name : Name
  pub path : List Segment
  pub is_required : Bool
  pub shape : ℕ
  pub field : Field
  pub category : FieldCategory

-- the key of a field
abbrev pub key_of_field : FieldView → Key
key_of_field f = stored_key f.category f.name

-- the same field, but not required
abbrev pub as_optional : FieldView → FieldView
as_optional f = record f { is_required = false }

-- whether two categories are one
abbrev pub category_eq : FieldCategory → FieldCategory → Bool
category_eq c d = nat_eq (category_index c) (category_index d)

-- whether a name is the empty one
abbrev pub is_unnamed : Name → Bool
is_unnamed [] = true
is_unnamed (_ ∷ _) = false

-- whether a DOM key without a name means every field of the category
abbrev pub takes_any_name : FieldCategory → Bool
takes_any_name Text = true
takes_any_name Tag = true
takes_any_name Elements = true
takes_any_name _ = false

-- whether a key means the fields of a category and a name. A field of category Flat goes by its
-- name alone. Of the others, a flat key means elements, and a DOM key its own category
abbrev pub means : Option FieldCategory → Name → FieldCategory → Name → Bool
means dom asked Flat name = name_eq asked name
means None asked category name = name_eq asked name && category_eq category Element
means (Some asked_category) asked category name =
    category_eq asked_category category
    && (name_eq asked name || (is_unnamed asked && takes_any_name category))

-- whether a key means a field
abbrev pub matches : Key → FieldView → Bool
matches key f = means key.dom key.name f.category f.name

-- whether a field goes by a name
abbrev pub has_name : Name → FieldView → Bool
has_name name f = name_eq name f.name

-- a field stands under its own key
abbrev pub IsStored : Key × FieldView → Type 0
IsStored e = e.0 ≡ key_of_field e.1

-- what an entry says
abbrev pub entry_view : FieldKey × FieldView → Key × FieldView
entry_view e = (key_of e.0, e.1)

-- entries of a map of fields
abbrev pub field_entries_view : List (FieldKey × FieldView) → finite.FinMap key_cmp FieldView
field_entries_view es = finite.from_entries (map entry_view es)

-- the keys rise, and each is that of its field
pub record IsFieldTable (entries : List (FieldKey × FieldView)) : Type 0 where
  pub rising : IsStrictlySortedBy key_cmp (map (λ e. e.0) (map entry_view entries))
  pub stored : AllByRecursion IsStored (map entry_view entries)

-- found stands under its stored key and passes, and nothing that passes stands under a lesser key
pub record IsLeast
    (fields : finite.FinMap key_cmp FieldView) (test : FieldView → Bool) (found : FieldView)
    : Type 0 where
  pub passes : test found ≡ true
  pub present : finite.get fields (key_of_field found) ≡ Some found
  pub least : (k : Key) (f : FieldView) → finite.get fields k ≡ Some f → test f ≡ true
      → key_cmp k (key_of_field found) ≢ Less

-- no field passes
abbrev pub NonePasses : finite.FinMap key_cmp FieldView → (FieldView → Bool) → Type 0
NonePasses fields test = (k : Key) (f : FieldView) → finite.get fields k ≡ Some f → test f ≡ false

-- what a search gives: the field of least key among those that pass, or that none does
abbrev pub IsLeastIfAny : finite.FinMap key_cmp FieldView → (FieldView → Bool)
    → Option FieldView → Type 0
IsLeastIfAny fields test result = MatchOption result (NonePasses fields test) (IsLeast fields test)
