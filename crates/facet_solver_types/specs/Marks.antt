-- Marks for the places that stand in an order.
use Rattle.std.specs.Prelude.{◌≡◌, ℕ, ◌<◌, Bool, List, length, slice_index_or}
use Rattle.facet_solver_types.specs.Walks.{is_placed}

-- each place is marked if it stands in the order, as far as there are marks
abbrev pub AreMarked : List ℕ → List Bool → Type 0
AreMarked order marks =
    (place : ℕ) (d : Bool) → place < length marks
    → slice_index_or marks place d ≡ is_placed order place
