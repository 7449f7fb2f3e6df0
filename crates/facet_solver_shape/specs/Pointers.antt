-- Pointers, followed from shape to shape, and the ends of their chains.
use Rattle.std.specs.Prelude.{ℕ, zero, suc, List, Option, Some, None, IsSome, slice_get, option_and_then, ◌≡◌, ◌<◌, length}
use Rattle.facet_solver_shape.specs.declared.shape.Shape.{Shape}
use Rattle.facet_solver_shape.specs.declared.shape.ShapeKind.{ShapeKind}
use Rattle.facet_solver_shape.specs.declared.shape.ShapeKind.TheVariants.{Pointer}
use Rattle.std.specs.Option.{option_map_or, option_map}

-- where a pointer leads to, if it is not opaque
abbrev pub pointee_of_kind : ShapeKind → Option ℕ
pointee_of_kind (Pointer pointee) = pointee
pointee_of_kind _ = None

-- where the shape at an index leads to
abbrev pub pointee_at : List Shape → ℕ → Option ℕ
pointee_at shapes index = option_and_then (λ s. pointee_of_kind s.kind) (slice_get shapes index)

-- the index that is reached from an index after n pointees, and none where the way has ended before
abbrev pub pointee_after : List Shape → ℕ → ℕ → Option ℕ
pointee_after shapes zero index = Some index
pointee_after shapes (suc n) index =
    option_and_then (pointee_after shapes n) (pointee_at shapes index)

-- the way of pointees from an index has no end
abbrev pub NeverEnds : List Shape → ℕ → Type 0
NeverEnds shapes index = (n : ℕ) → IsSome (pointee_after shapes n index)

-- the way of pointees from each index below this one has an end
abbrev pub EndsBelow : List Shape → ℕ → Type 0
EndsBelow shapes index = (k : ℕ) → k < index → ¬ NeverEnds shapes k

-- the index reached from an index by following pointees, n at the most
abbrev pub end_within : List Shape → ℕ → ℕ → ℕ
end_within shapes zero index = index
end_within shapes (suc n) index =
    option_map_or (end_within shapes n) (pointee_at shapes index) index

-- the end of the shape at an index: pointers are followed, and an opaque one is an end. No way that
-- ends is longer than the list
abbrev pub end_of : List Shape → ℕ → ℕ
end_of shapes index = end_within shapes (length shapes) index

-- some number of pointees leads from index to end, and nothing leads on from there
pub record IsEndOf (shapes : List Shape) (index end : ℕ) : Type 0 where
  pub steps : ℕ
  pub reached : pointee_after shapes steps index ≡ Some end
  pub last : pointee_at shapes end ≡ None

-- the shape at each index has its end
abbrev pub EveryShapeEnds : List Shape → Type 0
EveryShapeEnds shapes = (index : ℕ) → IsEndOf shapes index (end_of shapes index)

-- the kind of the shape at the end of an index's pointers
abbrev pub end_kind : List Shape → ℕ → Option ShapeKind
end_kind shapes index = option_map (λ s. s.kind) (slice_get shapes (end_of shapes index))
