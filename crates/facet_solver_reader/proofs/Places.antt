-- The text of a place by its segments.
use Rattle.std.proofs.Common.{◌≡◌, List, ◌∷◌, ◌++◌, map, codes, ap}
use Rattle.std.specs.List.{flat_map}
use Rattle.facet_solver_shape.proofs.Lists.{flat_map-map}
use Rattle.facet_solver_reader.specs.declared.place.PlaceSegment.{PlaceSegment}
use Rattle.facet_solver_reader.specs.Places.{step_of, step_text, place_text}

-- the first segment, and the others with dots before them
pub text_of_segments : (s : PlaceSegment) (rest : List PlaceSegment) → step_text (step_of s) ++ flat_map (λ t. codes "." ++ step_text (step_of t)) rest ≡ place_text (map step_of (s ∷ rest))
text_of_segments s rest = ap (λ ys. step_text (step_of s) ++ ys) (flat_map-map (λ t. codes "." ++ step_text t) step_of rest)
