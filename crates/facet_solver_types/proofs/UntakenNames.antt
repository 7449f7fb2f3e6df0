-- Where no item is a `use`, none takes a name.
use Rattle.std.proofs.Common.{◌≡◌, Bool, true, false, ◌||◌, List, [], ◌∷◌, ◌++◌, refl, ap, ◌∙◌}
use Rattle.std.specs.List.{flat_map}
use Rattle.facet_solver_shape.specs.Names.{Name}
use Rattle.facet_solver_types.specs.Declarations.{Item, ModuleItem, struct, enum, alias, faulty, implements, takes, other}
use Rattle.facet_solver_types.specs.Elsewhere.{has_use, is_use, is_use_item, taken_by, taken_by_item}
use Rattle.facet_solver_types.specs.Sites.{Site}

-- of two of which neither holds the first does not
pub first_fails : (one two : Bool) → (one || two) ≡ false → one ≡ false
first_fails true two neither = neither
first_fails false two neither = refl

-- and the second does not
pub second_fails : (one two : Bool) → (one || two) ≡ false → two ≡ false
second_fails true two neither = absurd (cc neither)
second_fails false two neither = neither

-- an item that is no `use` takes none
pub none_by_item : (modules declared : List Name) (site : Site) (item : Item) → is_use_item item ≡ false
    → taken_by_item modules declared site item ≡ []
none_by_item modules declared site (struct a n p b) none = refl
none_by_item modules declared site (enum a n p vs) none = refl
none_by_item modules declared site (alias a n p t) none = refl
none_by_item modules declared site (faulty a n f) none = refl
none_by_item modules declared site (implements n) none = refl
none_by_item modules declared site (takes ts) none = absurd (cc none)
none_by_item modules declared site other none = refl

-- items of which none is a `use` take none
pub none_taken : (modules declared : List Name) (items : List ModuleItem) → has_use items ≡ false
    → flat_map (taken_by modules declared) items ≡ []
none_taken modules declared [] none = refl
none_taken modules declared (m ∷ ms) none =
    ap (λ l. l ++ flat_map (taken_by modules declared) ms)
    (none_by_item modules declared m.site m.item (first_fails (is_use m) (has_use ms) none))
    ∙ none_taken modules declared ms (second_fails (is_use m) (has_use ms) none)
