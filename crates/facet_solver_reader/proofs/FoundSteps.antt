-- What steps go through, each kind by itself: one list of steps after another, and whatever is read
-- at each.
use Rattle.std.proofs.Common.{◌≡◌, ◌∷◌, ◌++◌, [], List, None, Some, ap, map, refl, subst}
use Rattle.std.proofs.lemmas.List.Elements.{All-head, All-tail}
use Rattle.std.specs.List.{All}
use Rattle.std.specs.Option.{option_or}
use Rattle.facet_solver_shape.specs.Catalogues.{Catalogue}
use Rattle.facet_solver_reader.specs.Choices.{Taken}
use Rattle.facet_solver_reader.specs.Found.{absences_in, catch_all_in, members_in, places_in}
use Rattle.facet_solver_reader.specs.Found.{selections_in}
use Rattle.facet_solver_reader.specs.Parts.{CatchAll}
use Rattle.facet_solver_reader.specs.Planned as planned
use Rattle.facet_solver_reader.specs.Planned.{Planned, planned_of}
use Rattle.facet_solver_reader.specs.Steps.{Step, a_field, a_rest, a_variant, an_absence}
use Rattle.facet_solver_reader.specs.Told as told
use Rattle.facet_solver_reader.specs.Told.{fields_in, place_of, rest_in}

-- the variants of some steps, and then those of others
pub selections_in-append : (shapes : Catalogue) (ss ts : List Planned)
    → selections_in shapes (ss ++ ts) ≡ selections_in shapes ss ++ selections_in shapes ts
selections_in-append shapes [] ts = refl
selections_in-append shapes (planned.a_variant path id k ∷ ss) ts =
    rw (selections_in-append shapes ss ts)
selections_in-append shapes (planned.a_field path m ∷ ss) ts = selections_in-append shapes ss ts
selections_in-append shapes (planned.an_absence path ∷ ss) ts = selections_in-append shapes ss ts
selections_in-append shapes (planned.a_rest k ∷ ss) ts = selections_in-append shapes ss ts

-- the paths of the enums that are absent
pub absences_in-append : (ss ts : List Planned)
    → absences_in (ss ++ ts) ≡ absences_in ss ++ absences_in ts
absences_in-append [] ts = refl
absences_in-append (planned.an_absence path ∷ ss) ts =
    ap (λ xs. path ∷ xs) (absences_in-append ss ts)
absences_in-append (planned.a_field path m ∷ ss) ts = absences_in-append ss ts
absences_in-append (planned.a_variant path id k ∷ ss) ts = absences_in-append ss ts
absences_in-append (planned.a_rest k ∷ ss) ts = absences_in-append ss ts

-- the places
pub places_in-append : (ss ts : List Planned)
    → places_in (ss ++ ts) ≡ places_in ss ++ places_in ts
places_in-append [] ts = refl
places_in-append (planned.a_field path m ∷ ss) ts =
    ap (λ xs. (path, m.name) ∷ xs) (places_in-append ss ts)
places_in-append (planned.a_variant path id k ∷ ss) ts = places_in-append ss ts
places_in-append (planned.an_absence path ∷ ss) ts = places_in-append ss ts
places_in-append (planned.a_rest k ∷ ss) ts = places_in-append ss ts

-- the members
pub members_in-append : (ss ts : List Planned)
    → members_in (ss ++ ts) ≡ members_in ss ++ members_in ts
members_in-append [] ts = refl
members_in-append (planned.a_field path m ∷ ss) ts =
    ap (λ xs. m ∷ xs) (members_in-append ss ts)
members_in-append (planned.a_variant path id k ∷ ss) ts = members_in-append ss ts
members_in-append (planned.an_absence path ∷ ss) ts = members_in-append ss ts
members_in-append (planned.a_rest k ∷ ss) ts = members_in-append ss ts

-- the first catch-all
pub catch_all_in-append : (ss ts : List Planned)
    → catch_all_in (ss ++ ts) ≡ option_or (catch_all_in ss) (catch_all_in ts)
catch_all_in-append [] ts = refl
catch_all_in-append (planned.a_rest k ∷ ss) ts = refl
catch_all_in-append (planned.a_field path m ∷ ss) ts = catch_all_in-append ss ts
catch_all_in-append (planned.a_variant path id k ∷ ss) ts = catch_all_in-append ss ts
catch_all_in-append (planned.an_absence path ∷ ss) ts = catch_all_in-append ss ts

-- the variants are selected whatever is read
pub selections_planned : (shapes : Catalogue) (ss : List Step)
    → told.selections_in shapes ss ≡ selections_in shapes (map planned_of ss)
selections_planned shapes [] = refl
selections_planned shapes (a_variant path id k ∷ ss) =
    rw (selections_planned shapes ss)
selections_planned shapes (a_field path m r ∷ ss) = selections_planned shapes ss
selections_planned shapes (an_absence path ∷ ss) = selections_planned shapes ss
selections_planned shapes (a_rest k t ∷ ss) = selections_planned shapes ss

-- the same enums are absent
pub absences_planned : (ss : List Step)
    → told.absences_in ss ≡ absences_in (map planned_of ss)
absences_planned [] = refl
absences_planned (an_absence path ∷ ss) = ap (λ xs. path ∷ xs) (absences_planned ss)
absences_planned (a_field path m r ∷ ss) = absences_planned ss
absences_planned (a_variant path id k ∷ ss) = absences_planned ss
absences_planned (a_rest k t ∷ ss) = absences_planned ss

-- the places are those of the members with what is read
pub places_planned : (ss : List Step)
    → map place_of (fields_in ss) ≡ places_in (map planned_of ss)
places_planned [] = refl
places_planned (a_field path m r ∷ ss) = ap (λ xs. (path, m.name) ∷ xs) (places_planned ss)
places_planned (a_variant path id k ∷ ss) = places_planned ss
places_planned (an_absence path ∷ ss) = places_planned ss
places_planned (a_rest k t ∷ ss) = places_planned ss

-- nothing is taken where there is no catch-all
pub no_rest : (ss : List Step) → catch_all_in (map planned_of ss) ≡ None → rest_in ss ≡ None
no_rest [] e = refl
no_rest (a_rest k t ∷ ss) e = absurd (cc)
no_rest (a_field path m r ∷ ss) e = no_rest ss e
no_rest (a_variant path id k ∷ ss) e = no_rest ss e
no_rest (an_absence path ∷ ss) e = no_rest ss e

-- something is taken where there is one
pub some_rest : (ss : List Step) (k : CatchAll) → catch_all_in (map planned_of ss) ≡ Some k
    → (t : Taken) × (rest_in ss ≡ Some (k, t))
some_rest [] k e = absurd (cc)
some_rest (a_rest j t ∷ ss) k e = let is : j ≡ k = cc in (t, ap (λ i. Some (i, t)) is)
some_rest (a_field path m r ∷ ss) k e = some_rest ss k e
some_rest (a_variant path id j ∷ ss) k e = some_rest ss k e
some_rest (an_absence path ∷ ss) k e = some_rest ss k e

module _ (P : Step → Type 0) where
  -- what each step has, that of the catch-all has
  pub all_rest : (ss : List Step) (k : CatchAll) (t : Taken) → All P ss
      → rest_in ss ≡ Some (k, t) → P (a_rest k t)
  all_rest [] k t h e = absurd (cc)
  all_rest (a_rest j u ∷ ss) k t h e =
      let pair : (j, u) ≡ (k, t) = cc in
      subst (λ (r : CatchAll × Taken). P (a_rest r.0 r.1)) pair (All-head P (a_rest j u) ss h)
  all_rest (a_field path m r ∷ ss) k t h e = all_rest ss k t (All-tail P (a_field path m r) ss h) e
  all_rest (a_variant path id j ∷ ss) k t h e =
      all_rest ss k t (All-tail P (a_variant path id j) ss h) e
  all_rest (an_absence path ∷ ss) k t h e =
      all_rest ss k t (All-tail P (an_absence path) ss h) e
