-- The texts of errors of a solver, byte for byte.
use Rattle.std.specs.Prelude.{ℕ, List, [], ◌∷◌, ◌++◌, map, Option, Some, None, codes}
use Rattle.std.specs.List.{flat_map}
use Rattle.facet_solver_shape.specs.Names.{Name}
use Rattle.facet_solver.specs.error.QuotedNames.{list_text, where_ascii}
use Rattle.facet_solver.specs.error.ErrorView.{MissingView, FailureView, ErrorView, no_match, ambiguous, out_of_memory}

-- the names of missing fields
abbrev pub missing_names : List MissingView → List Name
missing_names fields = map (λ m. m.name) fields

-- what a resolution lacks: nothing, one field by its name as it is, or several as a list
abbrev pub missing_text : List Name → List ℕ
missing_text [] = []
missing_text (name ∷ []) = codes ": missing field '" ++ (name ++ codes "'")
missing_text (name ∷ (other ∷ rest)) = codes ": missing fields " ++ list_text (name ∷ other ∷ rest)

-- the names of missing fields that are printed as a list: those of several
abbrev pub listed_missing : List Name → List Name
listed_missing [] = []
listed_missing (name ∷ []) = []
listed_missing (name ∷ (other ∷ rest)) = name ∷ other ∷ rest

-- the seen names that mean no field of it, after a colon, or after a comma where it lacks a field
abbrev pub unknown_text : List Name → List Name → List ℕ
unknown_text missing [] = []
unknown_text [] (name ∷ names) = codes ": unknown fields " ++ list_text (name ∷ names)
unknown_text (m ∷ missing) (name ∷ names) = codes ", unknown fields " ++ list_text (name ∷ names)

-- the line of a failure
abbrev pub failure_text : FailureView → List ℕ
failure_text f = codes "\n  - "
    ++ (f.variant_name ++ (missing_text (missing_names f.missing_fields)
    ++ unknown_text (missing_names f.missing_fields) f.unknown_fields))

-- the names that stand in its lists
abbrev pub failure_names : FailureView → List Name
failure_names f = listed_missing (missing_names f.missing_fields) ++ f.unknown_fields

-- the closest resolution, if one is given
abbrev pub closest_text : Option (List ℕ) → List ℕ
closest_text None = []
closest_text (Some description) = codes " (closest match: " ++ (description ++ codes ")")

-- a missing field with its path
abbrev pub field_at_path : MissingView → List ℕ
field_at_path m = codes " " ++ (m.name ++ (codes " (at path: " ++ (m.path ++ codes ")")))

-- missing fields with their paths, if there are any
abbrev pub at_paths_text : List MissingView → List ℕ
at_paths_text [] = []
at_paths_text (m ∷ fields) =
    codes "; missing required fields:" ++ flat_map field_at_path (m ∷ fields)

-- why nothing matches: a line for each failure, or, where there is none, what comes closest and
-- what is missing
abbrev pub reasons_text : List FailureView → Option (List ℕ) → List MissingView → List ℕ
reasons_text [] closest missing = closest_text closest ++ at_paths_text missing
reasons_text (f ∷ failures) closest missing =
    codes "\n\nNo variant matched:" ++ flat_map failure_text (f ∷ failures)

-- the names that no resolution has, if there are any
abbrev pub unknown_end : List Name → List ℕ
unknown_end [] = []
unknown_end (name ∷ names) = codes "\n\nUnknown fields: " ++ list_text (name ∷ names)

-- the names that tell candidates apart, if there are any
abbrev pub hint_text : List Name → List ℕ
hint_text [] = []
hint_text (name ∷ names) =
    codes "; try adding one of these fields to disambiguate: " ++ list_text (name ∷ names)

-- the text of an error
abbrev pub error_text : ErrorView → List ℕ
error_text (no_match e) = codes "No matching configuration for fields "
    ++ (list_text e.input_fields
    ++ (reasons_text e.candidate_failures e.closest_resolution e.missing_required_detailed
    ++ unknown_end e.unknown_fields))
error_text (ambiguous e) = codes "Ambiguous: multiple resolutions match: "
    ++ (list_text e.candidates ++ hint_text e.disambiguating_fields)
error_text out_of_memory = codes "out of memory"

-- the names that stand in its lists
abbrev pub listed_names : ErrorView → List Name
listed_names (no_match e) =
    e.input_fields ++ (flat_map failure_names e.candidate_failures ++ e.unknown_fields)
listed_names (ambiguous e) = e.candidates ++ e.disambiguating_fields
listed_names out_of_memory = []

-- what is stated of a printed error: its text, where all names in its lists are ASCII
abbrev pub error_output : ErrorView → Option (List ℕ)
error_output e = where_ascii (listed_names e) (error_text e)
