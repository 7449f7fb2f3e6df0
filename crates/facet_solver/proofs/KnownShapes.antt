-- The shapes of some items, kept as a set.
use Rattle.std.proofs.Common.{◌≡◌, ◌<◌, ℕ, Bool, true, false, ◌||◌, List, [], ◌∷◌, ◌++◌, nat_eq, refl, ap, sym, ◌∙◌, arith}
use Rattle.std.proofs.lemmas.Cmp.{nat_eq_equiv}
use Rattle.std.proofs.lemmas.List.Folds.{list_any-append}
use Rattle.facet_solver.specs.set.IndexSet.{IndexSet}
use Rattle.facet_solver.specs.solver.FirstOfEach.{is_among}
use Rattle.facet_solver.specs.solver.KnownShapes.{AddsShape, AreShapesOf}

behind : (here before : Bool) → (here || before) ≡ (before || (here || false))
behind true true = refl
behind true false = refl
behind false true = refl
behind false false = refl

-- an item behind the others, and its shape in the set
pub shapes_more : {X : Type 0} (shape_of : X → ℕ) (xs : List X) (x : X) (old new : IndexSet) → AreShapesOf shape_of xs old → AddsShape (shape_of x) old new → AreShapesOf shape_of (xs ++ x ∷ []) new
shapes_more shape_of xs x old new known added shape low =
    let below : shape < old.bound = omega (arith, added.bound, low) in
    added.members shape below
    ∙ ap (λ there. nat_eq shape (shape_of x) || there) (known shape below)
    ∙ ap (λ here. here || is_among shape_of xs shape) (nat_eq_equiv.symm shape (shape_of x))
    ∙ behind (nat_eq (shape_of x) shape) (is_among shape_of xs shape)
    ∙ sym (list_any-append (λ y. nat_eq (shape_of y) shape) xs (x ∷ []))
