-- What a solver says at the end.
use Rattle.std.specs.Prelude.{◌≡◌, ℕ, Bool, List, [], Option, Some, None, filter, length, map, not, slice_get, ⊤}
use Rattle.std.specs.FinMap as finite
use Rattle.std.specs.List.{filter_map, flat_map, list_all}
use Rattle.std.specs.Option.{option_and_then, option_map, option_map_or}
use Rattle.facet_solver_shape.specs.Keys.{Key, key_of}
use Rattle.facet_solver_shape.specs.Names.{Name}
use Rattle.facet_solver_shape.specs.Resolved.{description, Resolved}
use Rattle.facet_solver.specs.declared.error.SolverError.{SolverError}
use Rattle.facet_solver.specs.declared.solver.report.Report.{Report}
use Rattle.facet_solver.specs.declared.error.SolverError.TheVariants.{OutOfMemory}
use Rattle.facet_solver.specs.solver.Failure.{failure_of, in_byte_order, is_met, missing, missing_fields, names_where}
use Rattle.facet_solver.specs.Resolutions.{has_field_named, is_known}
use Rattle.facet_solver.specs.set.IndexSet.{HowMany, no_index, one_index, several_indices, how_many, upto}
use Rattle.facet_solver.specs.error.ErrorView.{AmbiguityView, ErrorView, NoMatchView, ambiguous, error_view, no_match}
use Rattle.facet_solver.specs.solver.State.{State, or_all, passing}

-- the seen keys meet each field
abbrev pub is_viable : List Key → Resolved → Bool
is_viable seen r = list_all (is_met seen) (finite.values r.fields)

-- the candidates that are viable
abbrev pub viable : State → List ℕ
viable s = passing (is_viable s.seen) s

-- the resolutions at some indices, in order
abbrev pub resolutions_at : List Resolved → List ℕ → List Resolved
resolutions_at resolutions indices = filter_map (slice_get resolutions) indices

-- the descriptions of resolutions
abbrev pub descriptions : List Resolved → List Name
descriptions resolutions = map (λ r. description r.selections) resolutions

-- the names of a resolution's fields, in key order
abbrev pub resolution_field_names : Resolved → List Name
resolution_field_names r = map (λ f. f.name) (finite.values r.fields)

-- the names that some but not all of some resolutions have, in byte order
abbrev pub disambiguating : List Resolved → List Name
disambiguating resolutions =
    filter (λ name. not (list_all (has_field_named name) resolutions))
    (in_byte_order (flat_map resolution_field_names resolutions))

-- the state that a report is made from
abbrev pub state_of_report : Report → State
state_of_report report = record {
  schema = report.schema.now;
  candidates = report.candidates.now.members;
  seen = map key_of report.seen.now.keys;
}

-- the names of the seen keys that mean no field of any resolution
abbrev pub unknown_names : List Key → List Resolved → List Name
unknown_names seen resolutions = names_where (λ key. not (is_known resolutions key)) seen

-- the resolutions that a report speaks of: the candidates, or all where there is none
abbrev pub reported : State → List Resolved
reported s =
    resolutions_at s.schema.resolutions (or_all s.candidates (upto (length s.schema.resolutions)))

-- the first candidate
abbrev pub closest : State → Option Resolved
closest s = option_and_then (slice_get s.schema.resolutions) (slice_get s.candidates 0)

-- the report that no candidate is viable
abbrev pub no_match_of : State → NoMatchView
no_match_of s =
    let catalogue = s.schema.build.catalogue in
    record {
      input_fields = map (λ k. k.name) s.seen;
      missing_required = option_map_or (λ r. map (λ f. f.name) (missing s.seen r)) (closest s) [];
      missing_required_detailed = option_map_or (missing_fields catalogue s.seen) (closest s) [];
      unknown_fields = unknown_names s.seen s.schema.resolutions;
      closest_resolution = option_map (λ r. description r.selections) (closest s);
      candidate_failures = map (failure_of catalogue s.seen) (reported s);
    }

-- the report that several are
abbrev pub ambiguity_of : State → AmbiguityView
ambiguity_of s =
    let resolutions = resolutions_at s.schema.resolutions (viable s) in
    record {
      candidates = descriptions resolutions;
      disambiguating_fields = disambiguating resolutions;
    }

-- the report, by how many candidates are viable: there is none where one alone is
abbrev pub report_by : HowMany → State → Option ErrorView
report_by no_index s = Some (no_match (no_match_of s))
report_by (one_index index) s = None
report_by several_indices s = Some (ambiguous (ambiguity_of s))

-- what is reported where not exactly one candidate is viable
abbrev pub report_of : State → Option ErrorView
report_of s = report_by (how_many (viable s)) s

-- an error is the report on a state, or says that memory ran out
abbrev pub IsReportOn : State → SolverError → Type 0
IsReportOn s OutOfMemory = ⊤
IsReportOn s e = Some (error_view e) ≡ report_of s
