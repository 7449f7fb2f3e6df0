-- What steps go through, each kind by itself.
use Rattle.std.specs.Prelude.{List, [], ◌∷◌, Option, Some, None}
use Rattle.facet_solver_shape.specs.Catalogues.{Catalogue}
use Rattle.facet_solver_shape.specs.Names.{Name}
use Rattle.facet_solver_shape.specs.Resolved.{Selection}
use Rattle.facet_solver_reader.specs.FieldPlaces.{Path, shape_name, variant_name}
use Rattle.facet_solver_reader.specs.Parts.{CatchAll, MemberPart}
use Rattle.facet_solver_reader.specs.Planned.{Planned, a_field, a_variant, an_absence, a_rest}

-- the variants that steps select, with their paths
abbrev pub selections_in : Catalogue → List Planned → List Selection
selections_in shapes [] = []
selections_in shapes (a_variant path id k ∷ ss) =
    record { path = path; enum_name = shape_name shapes id; variant_name = variant_name shapes id k }
    ∷ selections_in shapes ss
selections_in shapes (a_field path m ∷ ss) = selections_in shapes ss
selections_in shapes (an_absence path ∷ ss) = selections_in shapes ss
selections_in shapes (a_rest k ∷ ss) = selections_in shapes ss

-- the paths of the enums that are absent among steps
abbrev pub absences_in : List Planned → List Path
absences_in [] = []
absences_in (an_absence path ∷ ss) = path ∷ absences_in ss
absences_in (a_field path m ∷ ss) = absences_in ss
absences_in (a_variant path id k ∷ ss) = absences_in ss
absences_in (a_rest k ∷ ss) = absences_in ss

-- where the members among steps stand
abbrev pub places_in : List Planned → List (Path × Name)
places_in [] = []
places_in (a_field path m ∷ ss) = (path, m.name) ∷ places_in ss
places_in (a_variant path id k ∷ ss) = places_in ss
places_in (an_absence path ∷ ss) = places_in ss
places_in (a_rest k ∷ ss) = places_in ss

-- the members among steps
abbrev pub members_in : List Planned → List MemberPart
members_in [] = []
members_in (a_field path m ∷ ss) = m ∷ members_in ss
members_in (a_variant path id k ∷ ss) = members_in ss
members_in (an_absence path ∷ ss) = members_in ss
members_in (a_rest k ∷ ss) = members_in ss

-- the first catch-all among steps
abbrev pub catch_all_in : List Planned → Option CatchAll
catch_all_in [] = None
catch_all_in (a_rest k ∷ ss) = Some k
catch_all_in (a_field path m ∷ ss) = catch_all_in ss
catch_all_in (a_variant path id k ∷ ss) = catch_all_in ss
catch_all_in (an_absence path ∷ ss) = catch_all_in ss
