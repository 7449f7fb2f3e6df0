-- The names that are sought among items.
use Rattle.std.specs.Prelude.{ℕ, ◌==◌, Bool, false, if◌then◌else◌, List, [], ◌∷◌, flat_map, length, map, slice_get}
use Rattle.std.specs.List.{list_any}
use Rattle.std.specs.Option.{option_map_or}
use Rattle.facet_solver_shape.specs.Names.{Name}
use Rattle.facet_solver_types.specs.Conditions.{condition_of, is_other_form, name_of}
use Rattle.facet_solver_types.specs.Declarations.{Item, ModuleItem, implements}
use Rattle.facet_solver_types.specs.Tokens.{Token}

-- the name of the type that an item reads, if it is such an impl
abbrev pub impl_name : Item → List Name
impl_name (implements of) = of.text ∷ []
impl_name item = []

-- the names of the types that impls read
abbrev pub impl_names : List ModuleItem → List Name
impl_names items = flat_map (λ (m : ModuleItem). impl_name m.item) items

-- the name of a declaration that has a condition, or nothing of another item
abbrev pub form_name : ModuleItem → Name
form_name m = if length (condition_of m.item) == 0 then [] else name_of m.item

-- the same of items
abbrev pub form_names : List ModuleItem → List Name
form_names items = map form_name items

-- whether the item at a place, if there is one, is what another, with this condition, is under
-- another condition
abbrev pub is_form_at : List Token → ModuleItem → List ModuleItem → ℕ → Bool
is_form_at condition m others place =
    option_map_or (is_other_form condition m) (slice_get others place) false

-- whether one of the items at some places is
abbrev pub has_form_at : List Token → ModuleItem → List ModuleItem → List ℕ → Bool
has_form_at condition m others places = list_any (is_form_at condition m others) places
