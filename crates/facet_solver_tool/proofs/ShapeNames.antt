-- The names of shapes, as they are seen.
use Rattle.std.proofs.Common.{◌≡◌, ◌∙◌, ℕ, zero, suc, List, [], ◌∷◌, Option, ap, option_map, refl, slice_get}
use Rattle.std.specs.Option.{option_map_or}
use Rattle.facet_solver_shape.specs.declared.shape.Shape as code
use Rattle.facet_solver_types.specs.ShapeViews.{Shape, shape_view, shapes_view}
use Rattle.facet_solver_tool.specs.ShapeNames.{name_at}

-- what is seen of the shape at an index
seen_at : (shapes : List code.Shape) (id : ℕ) → slice_get (shapes_view shapes) id ≡ option_map shape_view (slice_get shapes id)
seen_at [] id = refl
seen_at (s ∷ shapes) zero = refl
seen_at (s ∷ shapes) (suc id) = seen_at shapes id

-- the name of the shape at an index, if there is none, or one
pub name_seen : (shapes : List code.Shape) (id : ℕ) (found : Option code.Shape) → slice_get shapes id ≡ found
    → name_at (shapes_view shapes) id ≡ option_map_or (λ (s : Shape). s.name) (option_map shape_view found) []
name_seen shapes id found is =
    ap (λ o. option_map_or (λ (s : Shape). s.name) o []) (seen_at shapes id ∙ ap (option_map shape_view) is)
