-- Walks from type to type.
use Rattle.std.specs.Prelude.{ℕ, zero, suc, Bool, true, false, List, [], ◌∷◌, ◌++◌, fold, get_or, set, replicate, length, ◌==◌, if◌then◌else◌}
use Rattle.std.specs.List.{list_any}

-- where a type leads to
abbrev pub links_at : List (List ℕ) → ℕ → List ℕ
links_at links place = get_or links place []

-- whether a place is marked
abbrev pub is_marked : List Bool → ℕ → Bool
is_marked marks place = get_or marks place false

-- the marks of the types that are reached from a type, itself too, over so many others at the most,
-- and of those that had one
unfoldable pub reach : List (List ℕ) → ℕ → List Bool → ℕ → List Bool
reach links zero marks place = marks
reach links (suc over) marks place =
    if is_marked marks place then marks
    else fold (reach links over) (set marks place true) (links_at links place)

-- the marks of the types to which a type leads, itself or over others: there are no more than links
abbrev pub reached : List (List ℕ) → ℕ → List Bool
reached links place =
    fold (reach links (length links)) (replicate (length links) false) (links_at links place)

-- whether a place stands in an order
abbrev pub is_placed : List ℕ → ℕ → Bool
is_placed order place = list_any (λ other. other == place) order

-- an order, with a type after its needs where it isn't there yet: first these, each after its own
-- over so many others at the most
unfoldable pub with_type : List (List ℕ) → ℕ → List ℕ → ℕ → List ℕ
with_type needs zero order place = order
with_type needs (suc over) order place =
    if is_placed order place then order
    else fold (with_type needs over) order (links_at needs place) ++ place ∷ []

-- types in order: each after its needs
abbrev pub in_order : List (List ℕ) → List ℕ → List ℕ
in_order needs places = fold (with_type needs (length needs)) [] places
