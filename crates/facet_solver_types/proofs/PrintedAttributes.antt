-- Lists of attributes that grow.
use Rattle.std.proofs.Common.{◌≡◌, ℕ, ◌+◌, ◌<◌, false, List, [], ◌∷◌, ◌++◌, length, get_or, take, map, Option, Some, None, option_map, codes, ap, sym, refl, ◌∙◌}
use Rattle.std.specs.Option.{option_to_list}
use Rattle.std.proofs.lemmas.List.{map_more, flat_map_more, append-nil}
use Rattle.std.proofs.lemmas.Grind.{flat_map-append}
use Rattle.facet_solver_shape.specs.Names.{Name}
use Rattle.facet_solver_types.specs.PrintedAttributes.{present, opened, one_of_list, is_empty}

-- those up to an element are those before it, and that one, if it is there
present_more : {X : Type 0} (text : X → Name) (xs : List (Option X)) (i : ℕ) → i < length xs
    → present (map (option_map text) (take (i + 1) xs))
    ≡ present (map (option_map text) (take i xs)) ++ option_to_list (option_map text (get_or xs i None))
present_more text xs i within =
    let so_far = map (option_map text) (take i xs) in
    let here = option_map text (get_or xs i None) in
    ap present (map_more (option_map text) xs i None within)
    ∙ flat_map-append option_to_list so_far (here ∷ [])
    ∙ ap (λ ys. present so_far ++ ys) (append-nil (option_to_list here))

-- one more where there is one
pub some_more : {X : Type 0} (text : X → Name) (xs : List (Option X)) (i : ℕ) (x : X) → i < length xs → get_or xs i None ≡ Some x
    → present (map (option_map text) (take (i + 1) xs)) ≡ present (map (option_map text) (take i xs)) ++ text x ∷ []
some_more text xs i x within is =
    present_more text xs i within
    ∙ ap (λ o. present (map (option_map text) (take i xs)) ++ option_to_list (option_map text o)) is

-- no more where there is none
pub none_more : {X : Type 0} (text : X → Name) (xs : List (Option X)) (i : ℕ) → i < length xs → get_or xs i None ≡ None
    → present (map (option_map text) (take (i + 1) xs)) ≡ present (map (option_map text) (take i xs))
none_more text xs i within is =
    present_more text xs i within
    ∙ ap (λ o. present (map (option_map text) (take i xs)) ++ option_to_list (option_map text o)) is
    ∙ append-nil (present (map (option_map text) (take i xs)))

-- one more attribute is one more of the list
pub opened_more : (so_far : List Name) (one : Name) → opened so_far ++ one_of_list (is_empty so_far) one ≡ opened (so_far ++ one ∷ [])
opened_more [] one = ap (λ ys. codes "#[facet(" ++ ys) (sym (append-nil one))
opened_more (first ∷ rest) one = flat_map_more (λ one. codes ", " ++ one) (codes "#[facet(" ++ first) rest one

-- no list is empty behind one
pub not_empty : (so_far : List Name) (one : Name) → is_empty (so_far ++ one ∷ []) ≡ false
not_empty [] one = refl
not_empty (first ∷ rest) one = refl
