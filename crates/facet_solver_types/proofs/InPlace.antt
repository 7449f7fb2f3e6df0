-- Lists whose items are changed in place, one after another, by a rule over what is seen of them.
use Rattle.std.proofs.Common.{◌≡◌, ◌∙◌, ℕ, ◌+◌, ◌<◌, ◌≤◌, List, ◌++◌, ap, sym, map, take, drop, length, set, get_or, append-nil}
use Rattle.std.proofs.lemmas.List.{drop_all, get_or-map, map-set, take_all}
use Rattle.std.proofs.lemmas.List.Edits.{map_over_more}

-- a list whose first items, so many, are changed
abbrev pub changed : {A : Type 0} → (A → A) → ℕ → List A → List A
changed rule count xs = map rule (take count xs) ++ drop count xs

-- one more is changed, where `xs` was seen of the items at first, and the items now are `ys`: the one
-- that stands there becomes one that is seen as the rule says
pub changed_more : {A B : Type 0} (view : A → B) (rule : B → B) (xs : List B) (ys : List A) (i : ℕ) (old new : A)
    → i < length xs → i < length ys → map view ys ≡ changed rule i xs → old ≡ get_or ys i old
    → view new ≡ rule (view old) → map view (set ys i new) ≡ changed rule (i + 1) xs
changed_more view rule xs ys i old new within there so here made =
    map-set view ys i new
    ∙ ap (λ y. set (map view ys) i y) made
    ∙ map_over_more rule xs (map view ys) i (view old) within so
    (ap view here ∙ sym (get_or-map view ys i old (view old) there))

-- all are changed
pub changed_all : {A : Type 0} (rule : A → A) (xs : List A) (i : ℕ) → length xs ≤ i → changed rule i xs ≡ map rule xs
changed_all rule xs i over =
    ap (λ ys. map rule ys ++ drop i xs) (take_all i xs over)
    ∙ ap (λ ys. map rule xs ++ ys) (drop_all i xs over)
    ∙ append-nil (map rule xs)
