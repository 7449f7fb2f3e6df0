-- What a check tells of the types alone.
use Rattle.std.proofs.Common.{◌≡◌, ℕ, List, [], ◌∷◌, ap, arith, length, map, refl, suc}
use Rattle.facet_solver_tool.specs.declared.question.Form.{Form}
use Rattle.facet_solver_tool.specs.declared.question.Form.TheVariants.{Text, Json}
use Rattle.facet_solver_tool.specs.Checks.{TellsTypes}

-- it is that alone also where another proposition holds, from which the first follows
pub tells_if : (form : Form) {none other : Type 0} (types text : List ℕ) → (other → none)
    → TellsTypes form none types text → TellsTypes form other types text
tells_if Text types text by told = (told.0, λ o. told.1 (by o))
tells_if Json types text by told = told

some_are : (n : ℕ) → suc n ≡ 0 → ⊥
some_are n is = omega arith

-- a list of whose elements nothing is made is empty
pub empty_of : {X Y : Type 0} (f : X → Y) (xs : List X) → map f xs ≡ [] → xs ≡ []
empty_of f [] is = refl
empty_of f (x ∷ xs) is = absurd (some_are (length (map f xs)) (ap length is))
