-- The pieces of a text, one for each element of a list.
use Rattle.std.proofs.Common.{◌≡◌, ◌++◌, ◌+◌, ◌<◌, ℕ, List, [], ◌∷◌, length, get_or, take, ap, sym, ◌∙◌}
use Rattle.std.proofs.lemmas.List.{flat_map_more, take_more}
use Rattle.std.specs.List.{flat_map}
use Rattle.facet_solver_shape.specs.Names.{Name}

-- behind the pieces so far comes that of the next element
pub piece_more : {A : Type 0} (piece : A → Name) (xs : List A) (i : ℕ) (x : A) → i < length xs → x ≡ get_or xs i x
    → flat_map piece (take i xs) ++ piece x ≡ flat_map piece (take (i + 1) xs)
piece_more piece xs i x within is =
    flat_map_more piece [] (take i xs) x
    ∙ ap (λ y. flat_map piece (take i xs ++ y ∷ [])) is
    ∙ ap (flat_map piece) (sym (take_more xs i x within))
