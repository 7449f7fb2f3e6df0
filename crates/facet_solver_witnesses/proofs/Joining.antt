-- Lists that a loop makes of another, element by element.
use Rattle.std.proofs.Common.{◌≡◌, ◌∙◌, sym, ap, ℕ, ◌+◌, ◌<◌, List, [], ◌∷◌, ◌++◌, get_or, length}
use Rattle.std.proofs.Common.{take}
use Rattle.std.specs.List.{flat_map}
use Rattle.std.proofs.lemmas.List.{append-nil, take_more}
use Rattle.std.proofs.lemmas.List.Concat.{flat_map-append}

-- one step of a loop that adds what a function gives of each element
pub joined_more : {X Y : Type 0} (f : X → List Y) (xs : List X) (i : ℕ) (d : X) (old new : List Y)
    → i < length xs → old ≡ flat_map f (take i xs) → new ≡ old ++ f (get_or xs i d)
    → new ≡ flat_map f (take (i + 1) xs)
joined_more f xs i d old new within before added =
    let x = get_or xs i d in
    added ∙ ap (λ ys. ys ++ f x) before
    ∙ ap (λ ys. flat_map f (take i xs) ++ ys) (sym (append-nil (f x)))
    ∙ sym (flat_map-append f (take i xs) (x ∷ []))
    ∙ ap (flat_map f) (sym (take_more xs i d within))
