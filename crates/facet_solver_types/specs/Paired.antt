-- Two lists side by side.
use Rattle.std.specs.Prelude.{List, [], ◌∷◌}

-- what a rule makes of the items of two lists side by side, to the end of the shorter one
abbrev pub paired : {A B C : Type 0} → (A → B → C) → List A → List B → List C
paired rule [] ys = []
paired rule (x ∷ xs) [] = []
paired rule (x ∷ xs) (y ∷ ys) = rule x y ∷ paired rule xs ys
