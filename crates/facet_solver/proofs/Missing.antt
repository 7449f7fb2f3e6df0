-- What is told of the fields that a resolution lacks.
use Rattle.std.proofs.Common.{◌≡◌, true, false, List, [], ◌∷◌, Option, Some, None, filter, map, not, refl, ap}
use Rattle.std.specs.Option.{option_map_or}
use Rattle.facet_solver_shape.specs.Fields.{FieldView}
use Rattle.facet_solver_shape.specs.Keys.{Key}
use Rattle.facet_solver_shape.specs.Resolved.{Resolved}
use Rattle.facet_solver.specs.build.Build.{Catalogue}
use Rattle.facet_solver.specs.solver.Failure.{is_met, missing, missing_field, missing_fields}
use Rattle.facet_solver.specs.error.ErrorView.{MissingView}

-- what is told of those fields that the seen keys do not meet
abbrev pub missing_among : Catalogue → List Key → List FieldView → List MissingView
missing_among catalogue seen fields =
    map (missing_field catalogue) (filter (λ f. not (is_met seen f)) fields)

module _ (catalogue : Catalogue) (seen : List Key) (f : FieldView) (rest : List FieldView) where
  -- a field that they meet
  pub met_left : is_met seen f ≡ true → missing_among catalogue seen (f ∷ rest) ≡ missing_among catalogue seen rest
  met_left is = rw is refl

  -- and one that they do not
  pub missing_left : is_met seen f ≡ false → missing_among catalogue seen (f ∷ rest) ≡ missing_field catalogue f ∷ missing_among catalogue seen rest
  missing_left is = rw is refl

names_told : (catalogue : Catalogue) (fields : List FieldView) → map (λ (m : MissingView). m.name) (map (missing_field catalogue) fields) ≡ map (λ (f : FieldView). f.name) fields
names_told catalogue [] = refl
names_told catalogue (f ∷ fields) = ap (λ names. f.name ∷ names) (names_told catalogue fields)

-- the names of what is told
pub told_names : (catalogue : Catalogue) (seen : List Key) (r : Option Resolved)
    → map (λ (m : MissingView). m.name) (option_map_or (missing_fields catalogue seen) r []) ≡ option_map_or (λ r. map (λ (f : FieldView). f.name) (missing seen r)) r []
told_names catalogue seen None = refl
told_names catalogue seen (Some r) = names_told catalogue (missing seen r)
