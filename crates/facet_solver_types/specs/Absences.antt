-- What types do with a member that is absent: an option takes it, others pass it on or refuse it.
use Rattle.std.specs.Prelude.{ℕ, zero, suc, Bool, true, false, if◌then◌else◌, List, [], ◌∷◌, Option, Some, None, get_or, map, slice_get}
use Rattle.facet_solver_shape.specs.Names.{Name}
use Rattle.facet_solver_types.specs.declared.catalogue.absences.Absence.{Absence}
use Rattle.facet_solver_types.specs.declared.catalogue.absences.Absence.TheVariants.{Taken, Passed, Refused}
use Rattle.facet_solver_types.specs.Links.{place_in}
use Rattle.facet_solver_types.specs.MadeShapes.{first_types}
use Rattle.facet_solver_types.specs.TypeEntries.{Form, TypeEntry, option, pointer, declared}
use Rattle.facet_solver_types.specs.Understood.{Declaration, Declared, struct, proxied}

-- it is passed on to the first of some types, and refused where there is none
abbrev pub passed_to_first : List Name → List Name → Absence
passed_to_first ids [] = Refused
passed_to_first ids (id ∷ types) = Passed (place_in ids id)

-- what is declared, with these types, passes it on if it is a struct that says `transparent`, to the
-- type of its field, or if it is read as another type, to that
abbrev pub declared_absence : List Name → Declared → List (List Name) → Absence
declared_absence ids (struct kind fields is_transparent says_so is_container) types =
    if says_so then passed_to_first ids (first_types types) else Refused
declared_absence ids (proxied proxies) types = passed_to_first ids (first_types types)
declared_absence ids others types = Refused

-- what a declaration declares, with these types, does so
abbrev pub found_absence : List Name → Option Declaration → List (List Name) → Absence
found_absence ids None types = Refused
found_absence ids (Some declaration) types = declared_absence ids declaration.declared types

-- an option takes it, a pointer passes it on to its target, and no other type does that declarations
-- don't declare
abbrev pub absence_of : List Declaration → List Name → Form → Absence
absence_of declarations ids (option inside) = Taken
absence_of declarations ids (pointer inside) = Passed (place_in ids inside)
absence_of declarations ids (declared index types) =
    found_absence ids (slice_get declarations index) types
absence_of declarations ids form = Refused

-- what each of some types does with it
abbrev pub absences_of : List Declaration → List Name → List TypeEntry → List Absence
absences_of declarations ids entries =
    map (λ (e : TypeEntry). absence_of declarations ids e.form) entries

-- what the type at a place does with it
abbrev pub absence_at : List Absence → ℕ → Absence
absence_at absences place = get_or absences place Refused

-- whether an option takes it in the end, where it is passed on so many times at the most
unfoldable pub is_taken : List Absence → ℕ → Absence → Bool
is_taken absences times Taken = true
is_taken absences times Refused = false
is_taken absences zero (Passed place) = false
is_taken absences (suc times) (Passed place) =
    is_taken absences times (absence_at absences place)

-- whether a type that does so with it is no option, and leads to one: over at most 127 types
abbrev pub passes_to_option : List Absence → Absence → Bool
passes_to_option absences (Passed place) = is_taken absences 127 (Passed place)
passes_to_option absences absence = false

-- whether the type at a place is no option, and leads to one
abbrev pub leads_to_option : List Absence → ℕ → Bool
leads_to_option absences place = passes_to_option absences (absence_at absences place)
