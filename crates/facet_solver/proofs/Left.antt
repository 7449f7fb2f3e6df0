-- Loops that make a list, by what is left to go through.
use Rattle.std.proofs.Common.{◌≡◌, List, [], ◌∷◌, ◌++◌, map, ap, sym, ◌∙◌, append_assoc, append-nil}
use Rattle.std.proofs.lemmas.List.{map-append}

module _ {X Y : Type 0} (f : List X → List Y) where
  -- before the loop
  pub left_start : (made : List Y) (left all : List X) → made ≡ [] → left ≡ all → made ++ f left ≡ f all
  left_start made left all none same = λ i. none i ++ f (same i)

  module _ (made : List Y) (left rest : List X) (x : X) (whole : List Y) (before : made ++ f left ≡ whole) (step : left ≡ x ∷ rest) where
    -- an item that gives nothing
    pub left_none : f (x ∷ rest) ≡ f rest → made ++ f rest ≡ whole
    left_none gives = ap (λ ys. made ++ ys) (sym gives ∙ ap f (sym step)) ∙ before

    -- an item that gives one more
    pub left_one : (now : List Y) (y : Y) → now ≡ made ++ y ∷ [] → f (x ∷ rest) ≡ y ∷ f rest → now ++ f rest ≡ whole
    left_one now y pushed gives =
        ap (λ ys. ys ++ f rest) pushed
        ∙ append_assoc made (y ∷ []) (f rest)
        ∙ ap (λ ys. made ++ ys) (sym gives ∙ ap f (sym step))
        ∙ before

  -- behind the loop
  pub left_end : (made : List Y) (left : List X) (whole : List Y) → made ++ f left ≡ whole → left ≡ [] → f [] ≡ [] → made ≡ whole
  left_end made left whole before done none =
      sym (append-nil made) ∙ ap (λ ys. made ++ ys) (sym none ∙ ap f (sym done)) ∙ before

-- what a list says after one more item
pub map_pushed : {X Y : Type 0} (f : X → Y) (old new : List X) (x : X) (y : Y) → new ≡ old ++ x ∷ [] → f x ≡ y → map f new ≡ map f old ++ y ∷ []
map_pushed f old new x y pushed is = ap (map f) pushed ∙ map-append f old (x ∷ []) ∙ ap (λ z. map f old ++ z ∷ []) is
