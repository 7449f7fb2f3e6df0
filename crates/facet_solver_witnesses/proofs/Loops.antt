-- What a loop over a list has found.
use Rattle.std.proofs.Common.{◌≡◌, ◌∙◌, ℕ, ◌+◌, ◌<◌, ◌≤◌, List, [], ◌∷◌, ◌++◌, ap, ap₂, arith}
use Rattle.std.proofs.Common.{get_or, length, map, subst, sym, take}
use Rattle.std.specs.List.{All, Any}
use Rattle.std.proofs.lemmas.Grind.{common_steps}
use Rattle.std.proofs.Math.ListN.{get_or-append}
use Rattle.std.proofs.lemmas.List.{map-append, take_all, take_more}

-- an element that is read has it
pub found_at : {X : Type 0} (P : X → Type 0) (xs : List X) (i : ℕ) (x : X) → i < length xs
    → x ≡ get_or xs i x → P x → Any P xs
found_at P xs i x within read has = (i, x, within, sym read, has)

-- some element still has it when one is added
pub any_pushed : {X : Type 0} (P : X → Type 0) (xs : List X) (y : X)
    → Any P xs → Any P (xs ++ y ∷ [])
any_pushed P xs y h =
    let within : h.0 < length (xs ++ y ∷ []) = grind (arith, h.2, common_steps) in
    (h.0, h.1, within, get_or-append xs (y ∷ []) h.1 h.0 h.2 ∙ h.3, h.4)

-- all have it when the loop ends
pub all_done : {X : Type 0} (P : X → Type 0) (xs : List X) (i : ℕ) → length xs ≤ i
    → All P (take i xs) → All P xs
all_done P xs i past h = subst (All P) (take_all i xs past) h

-- one step of a loop that makes of each element one that is seen alike
pub mapped_more : {X Y Z : Type 0} (f : X → Z) (g : Y → Z) (xs : List Y) (i : ℕ) (y : Y)
    (made new : List X) (x : X) → i < length xs → y ≡ get_or xs i y
    → map f made ≡ map g (take i xs) → f x ≡ g y → new ≡ made ++ x ∷ []
    → map f new ≡ map g (take (i + 1) xs)
mapped_more f g xs i y made new x within read before alike added =
    ap (map f) added ∙ map-append f made (x ∷ [])
    ∙ ap₂ (λ zs z. zs ++ z ∷ []) before (alike ∙ ap g read)
    ∙ sym (map-append g (take i xs) (get_or xs i y ∷ []))
    ∙ ap (map g) (sym (take_more xs i y within))

-- its end
pub mapped_all : {X Y Z : Type 0} (f : X → Z) (g : Y → Z) (xs : List Y) (i : ℕ) (made : List X)
    → length xs ≤ i → map f made ≡ map g (take i xs) → map f made ≡ map g xs
mapped_all f g xs i made past is = is ∙ ap (map g) (take_all i xs past)
