-- What takes a member of a document in a resolution.
use Rattle.std.specs.Prelude.{◌≡◌, Bool, true, ◌&&◌, not, List, [], ◌∷◌, Option, Some, find, if◌then◌else◌, is_some}
use Rattle.std.specs.FinMap as finite
use Rattle.std.specs.FinSet as set
use Rattle.std.specs.List.{list_all}
use Rattle.std.specs.Option.{option_map, option_or, unwrap_or}
use Rattle.facet_solver.specs.Fields.{FieldView, category_eq}
use Rattle.facet_solver.specs.Keys.{Key}
use Rattle.facet_solver.specs.Resolved.{Resolved, field_by_key}
use Rattle.facet_solver.specs.declared.FieldCategory.{FieldCategory}
use Rattle.facet_solver.specs.declared.FieldCategory.TheVariants.{Flat, Element}
use Rattle.facet_solver_uses.specs.declared.taken.Taker.{Taker}
use Rattle.facet_solver_uses.specs.declared.taken.Taker.TheVariants.{Field, Content, CatchAll}

-- what takes a member: a field, an adjacently tagged enum as its content, or a catch-all
pub data TakerView : Type 0 where
  by_field : FieldView → TakerView
  as_content : TakerView
  by_catch_all : FieldView → TakerView

-- what a taker says
abbrev pub taker_view : Taker → TakerView
taker_view (Field f) = by_field f.now
taker_view Content = as_content
taker_view (CatchAll f) = by_catch_all f.now

-- the category of a key, where a flat key is that of an element
abbrev pub category_of : Key → FieldCategory
category_of key = unwrap_or key.dom Element

-- whether a key that means no field is that of content: it is flat or that of an element, and its
-- name alone is a key path
abbrev pub is_content : Key → Resolved → Bool
is_content key r =
    category_eq (category_of key) Element && set.contains r.key_paths (key.name ∷ [])

-- the catch-all for a key that means no field: that of category Flat takes every key, and any other
-- those of its category
abbrev pub catch_all_of : Key → Resolved → Option FieldView
catch_all_of key r =
    option_or (finite.get r.catch_alls Flat) (finite.get r.catch_alls (category_of key))

-- what takes a key: the field that it means; or it is content; or a catch-all
abbrev pub taker_of : Key → Resolved → Option TakerView
taker_of key r =
    option_or (option_map by_field (field_by_key key r))
    (if is_content key r then Some as_content else option_map by_catch_all (catch_all_of key r))

-- whether a resolution takes a key
abbrev pub is_taken : Key → Resolved → Bool
is_taken key r = is_some (taker_of key r)

-- each of some keys is taken
abbrev pub AreTaken : Resolved → List Key → Type 0
AreTaken r keys = list_all (λ key. is_taken key r) keys ≡ true

-- the first of some keys that a resolution does not take, if there is one
abbrev pub first_unknown : Resolved → List Key → Option Key
first_unknown r keys = find (λ key. not (is_taken key r)) keys
