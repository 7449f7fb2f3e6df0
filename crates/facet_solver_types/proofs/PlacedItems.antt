-- The names that are sought among items, one item after the other.
use Rattle.std.proofs.Common.{◌≡◌, ℕ, zero, suc, ◌+◌, ◌==◌, Bool, true, false, ◌&&◌, ◌||◌, not, if◌then◌else◌, List, [], ◌∷◌, ◌++◌, length, take, refl, sym, ap, ◌∙◌, arith}
use Rattle.std.specs.List.{list_any}
use Rattle.std.proofs.lemmas.List.Folds.{list_any-append}
use Rattle.facet_solver_shape.specs.Names.{Name, name_eq}
use Rattle.facet_solver_types.specs.Conditions.{condition_of, differs, has_form_in, is_other_form, name_of, same_texts}
use Rattle.facet_solver_types.specs.Declarations.{Item, ModuleItem, alias, enum, faulty, implements, other, struct, takes}
use Rattle.facet_solver_types.specs.Derives.{has_impl, is_impl}
use Rattle.facet_solver_types.specs.NamePlaces.{has_name, places_from, places_of}
use Rattle.facet_solver_types.specs.PlacedItems.{form_name, form_names, has_form_at, impl_name, impl_names, is_form_at}
use Rattle.facet_solver_types.specs.Sites.{same_site}
use Rattle.facet_solver_types.specs.Tokens.{Token}

-- ---- impls

or_none : (b : Bool) → b ≡ (b || false)
or_none true = refl
or_none false = refl

-- an item is the impl of a name if it reads a type of that name
named_impl : (name : Name) (item : Item) → is_impl name item ≡ has_name (impl_name item) name
named_impl name (implements of) = or_none (name_eq of.text name)
named_impl name (struct attributes one parameters body) = refl
named_impl name (enum attributes one parameters variants) = refl
named_impl name (alias attributes one parameters written) = refl
named_impl name (faulty attributes one fault) = refl
named_impl name (takes tokens) = refl
named_impl name other = refl

-- one of some items is the impl of a name if that is the name of one
pub impl_by_name : (name : Name) (items : List ModuleItem)
    → has_name (impl_names items) name ≡ has_impl name items
impl_by_name name [] = refl
impl_by_name name (m ∷ ms) =
    list_any-append (λ one. name_eq one name) (impl_name m.item) (impl_names ms)
    ∙ ap (λ b. b || has_name (impl_names ms) name) (sym (named_impl name m.item))
    ∙ ap (λ b. is_impl name m.item || b) (impl_by_name name ms)

-- ---- items under other conditions

-- what is seen at the places of a name that stands first or not, and at those of the others
seen_at : (seen : ℕ → Bool) (b : Bool) (place : ℕ) (places : List ℕ)
    → list_any seen ((if b then place ∷ [] else []) ++ places) ≡ ((b && seen place) || list_any seen places)
seen_at seen b place places =
    list_any-append seen (if b then place ∷ [] else []) places ∙ ap (λ x. x || list_any seen places) (go b)
  where
    go : (b : Bool) → list_any seen (if b then place ∷ [] else []) ≡ (b && seen place)
    go true = sym (or_none (seen place))
    go false = refl

-- where nothing is seen from a place on, none of the places of a name is seen
none_seen : (seen : ℕ → Bool) (place : ℕ) (name : Name) (names : List Name)
    → ((j : ℕ) → seen (place + j) ≡ false) → list_any seen (places_from place name names) ≡ false
none_seen seen place name [] none = refl
none_seen seen place name (n ∷ ns) none =
    seen_at seen (name_eq n name) place (places_from (place + 1) name ns)
    ∙ ap (λ b. (name_eq n name && b) || list_any seen (places_from (place + 1) name ns))
    ((let same : place ≡ place + 0 = omega arith in ap seen same) ∙ none 0)
    ∙ ap (λ b. (name_eq n name && false) || b)
    (none_seen seen (place + 1) name ns
    (λ j. (let same : place + 1 + j ≡ place + suc j = omega arith in ap seen same) ∙ none (suc j)))
    ∙ over (name_eq n name)
  where
    over : (b : Bool) → ((b && false) || false) ≡ false
    over true = refl
    over false = refl

module _ (condition : List Token) (m : ModuleItem) where
  -- an item that is another's form has the other's name
  named_form : (one : ModuleItem)
      → (name_eq (form_name one) (name_of m.item) && is_other_form condition m one)
      ≡ is_other_form condition m one
  named_form one = go (length (condition_of one.item) == 0) refl
    where
      there : Bool → Bool
      there none =
          name_eq (name_of one.item) (name_of m.item) && same_site m.site one.site
          && (not none && not (same_texts condition (condition_of one.item)))

      never : (a b c : Bool) → ((a && b) && (false && c)) ≡ false
      never true true c = refl
      never true false c = refl
      never false b c = refl

      and_none : (a : Bool) → (a && false) ≡ false
      and_none true = refl
      and_none false = refl

      twice : (a b c : Bool) → (a && ((a && b) && c)) ≡ ((a && b) && c)
      twice true b c = refl
      twice false b c = refl

      go : (none : Bool) → (length (condition_of one.item) == 0) ≡ none
          → (name_eq (form_name one) (name_of m.item) && is_other_form condition m one)
          ≡ is_other_form condition m one
      go true e =
          let is : is_other_form condition m one ≡ false =
          ap there e
          ∙ never (name_eq (name_of one.item) (name_of m.item)) (same_site m.site one.site)
          (not (same_texts condition (condition_of one.item))) in
          ap (λ b. name_eq (form_name one) (name_of m.item) && b) is
          ∙ and_none (name_eq (form_name one) (name_of m.item))
          ∙ sym is
      go false e =
          let named : form_name one ≡ name_of one.item = ap (λ b. if b then [] else name_of one.item) e in
          ap (λ n. name_eq n (name_of m.item) && is_other_form condition m one) named
          ∙ twice (name_eq (name_of one.item) (name_of m.item)) (same_site m.site one.site)
          (differs condition (condition_of one.item))

  -- one of the first so many items is a form if one at the places of its name is, where the first
  -- item has a place
  forms_from : (count place : ℕ) (items : List ModuleItem) (seen : ℕ → Bool)
      → ((j : ℕ) → seen (place + j) ≡ is_form_at condition m (take count items) j)
      → list_any seen (places_from place (name_of m.item) (form_names items))
      ≡ has_form_in condition m (take count items)
  forms_from zero place items seen are =
      none_seen seen place (name_of m.item) (form_names items) are
  forms_from (suc count) place [] seen are = refl
  forms_from (suc count) place (one ∷ others) seen are =
      seen_at seen (name_eq (form_name one) (name_of m.item)) place
      (places_from (place + 1) (name_of m.item) (form_names others))
      ∙ ap (λ b. (name_eq (form_name one) (name_of m.item) && b)
      || list_any seen (places_from (place + 1) (name_of m.item) (form_names others)))
      ((let same : place ≡ place + 0 = omega arith in ap seen same) ∙ are 0)
      ∙ ap (λ b. b || list_any seen (places_from (place + 1) (name_of m.item) (form_names others)))
      (named_form one)
      ∙ ap (λ b. is_other_form condition m one || b)
      (forms_from count (place + 1) others seen
      (λ j. (let same : place + 1 + j ≡ place + suc j = omega arith in ap seen same) ∙ are (suc j)))

  -- the same, where the first item stands at 0
  pub forms_by_name : (count : ℕ) (items : List ModuleItem)
      → has_form_at condition m (take count items) (places_of (name_of m.item) (form_names items))
      ≡ has_form_in condition m (take count items)
  forms_by_name count items =
      forms_from count 0 items (is_form_at condition m (take count items))
      (λ j. let same : 0 + j ≡ j = omega arith in ap (is_form_at condition m (take count items)) same)
