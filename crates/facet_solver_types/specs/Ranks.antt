-- Ranks of types, which show that none leads to itself.
use Rattle.std.specs.Prelude.{◌≡◌, ℕ, Bool, false, List, length, get_or, nat_lt}
use Rattle.std.specs.List.{list_all, range_with_len}
use Rattle.facet_solver_types.specs.Walks.{is_marked, links_at, reached}

-- the rank of a type: the lowest where it has none
abbrev pub rank : List ℕ → ℕ → ℕ
rank ranks place = get_or ranks place 0

-- whether types have ranks below a limit
abbrev pub are_below : List ℕ → ℕ → List ℕ → Bool
are_below ranks limit places = list_all (λ place. nat_lt (rank ranks place) limit) places

-- whether each type has a higher rank than all that it leads to
abbrev pub fall : List (List ℕ) → List ℕ → Bool
fall links ranks =
    list_all (λ place. are_below ranks (rank ranks place) (links_at links place))
    (range_with_len 0 (length links))

-- no type leads to itself
abbrev pub AreAcyclic : List (List ℕ) → Type 0
AreAcyclic links = (place : ℕ) → is_marked (reached links place) place ≡ false
