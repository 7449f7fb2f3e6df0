-- The declarations of a name by the places of names.
use Rattle.std.proofs.Common.{◌≡◌, ℕ, ◌+◌, ◌++◌, ◌∷◌, [], List, if◌then◌else◌, ap, refl}
use Rattle.facet_solver_shape.specs.Names.{Name, name_eq}
use Rattle.facet_solver_types.specs.DeclaredNames.{declared_names}
use Rattle.facet_solver_types.specs.Meant.{namesakes, namesakes_from}
use Rattle.facet_solver_types.specs.NamePlaces.{places_from, places_of}
use Rattle.facet_solver_types.specs.Understood.{Declaration}

named_from : (index : ℕ) (name : Name) (ds : List Declaration)
    → places_from index name (declared_names ds) ≡ namesakes_from index name ds
named_from index name [] = refl
named_from index name (d ∷ ds) =
    ap (λ l. (if name_eq d.name.text name then index ∷ [] else []) ++ l) (named_from (index + 1) name ds)

-- the places of a name are the indices of the declarations that have it
pub named_by_places : (name : Name) (ds : List Declaration)
    → places_of name (declared_names ds) ≡ namesakes name ds
named_by_places name ds = named_from 0 name ds
