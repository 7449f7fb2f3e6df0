-- The shapes of some items, kept as a set.
use Rattle.std.specs.Prelude.{◌≡◌, ◌<◌, ◌||◌, ℕ, List, nat_eq}
use Rattle.facet_solver.specs.set.IndexSet.{IndexSet, has_index}
use Rattle.facet_solver.specs.solver.FirstOfEach.{is_among}

-- of the shapes below its bound, a set has those of some items, and no others
abbrev pub AreShapesOf : {X : Type 0} → (X → ℕ) → List X → IndexSet → Type 0
AreShapesOf shape_of xs shapes =
    (shape : ℕ) → shape < shapes.bound
    → has_index shapes.members shape ≡ is_among shape_of xs shape

-- a set after a shape was added, if it is below the bound
pub record AddsShape (shape : ℕ) (old new : IndexSet) : Type 0 where
  pub bound : new.bound ≡ old.bound
  pub members : (other : ℕ) → other < old.bound
      → has_index new.members other ≡ (nat_eq other shape || has_index old.members other)
