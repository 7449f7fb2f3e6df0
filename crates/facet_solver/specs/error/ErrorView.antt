-- What an error of a solver reports, as lists of bytes.
use Rattle.std.specs.Prelude.{ℕ, List, Option, map, string_bytes}
use Rattle.facet_solver_shape.specs.Names.{Name, names_of, optional_name}
use Rattle.facet_solver.specs.declared.error.MissingFieldInfo.{MissingFieldInfo}
use Rattle.facet_solver.specs.declared.error.CandidateFailure.{CandidateFailure}
use Rattle.facet_solver.specs.declared.error.SolverError.{SolverError}
use Rattle.facet_solver.specs.declared.error.SolverError.TheVariants.{NoMatch, Ambiguous, OutOfMemory}

-- a required field that was not seen: its name, the text of its path, and the type identifier of
-- its shape
pub record MissingView : Type 0 where
  pub name : Name
  pub path : List ℕ
  pub defined_in : Name

-- why a resolution is not the answer: its description, what it lacks, the seen names that mean no
-- field of it
pub record FailureView : Type 0 where
  pub variant_name : List ℕ
  pub missing_fields : List MissingView
  pub unknown_fields : List Name
  pub suggestion_matches : ℕ

-- a report that nothing matches
pub record NoMatchView : Type 0 where
  pub input_fields : List Name
  pub missing_required : List Name
  pub missing_required_detailed : List MissingView
  pub unknown_fields : List Name
  pub closest_resolution : Option (List ℕ)
  pub candidate_failures : List FailureView

-- a report that several match: their descriptions, and the names that tell them apart
pub record AmbiguityView : Type 0 where
  pub candidates : List (List ℕ)
  pub disambiguating_fields : List Name

-- what an error reports
pub data ErrorView : Type 0 where
  no_match : NoMatchView → ErrorView
  ambiguous : AmbiguityView → ErrorView
  out_of_memory : ErrorView

-- what a missing field says
abbrev pub missing_view : MissingFieldInfo → MissingView
missing_view m =
    record { name = m.name.now; path = string_bytes m.path; defined_in = string_bytes m.defined_in }

-- what a failure says
abbrev pub failure_view : CandidateFailure → FailureView
failure_view f = record {
  variant_name = string_bytes f.variant_name;
  missing_fields = map missing_view f.missing_fields.items;
  unknown_fields = map string_bytes f.unknown_fields.items;
  suggestion_matches = f.suggestion_matches;
}

-- what an error says, wherever its texts lie
abbrev pub error_view : SolverError → ErrorView
error_view (NoMatch input_fields missing_required missing unknown_fields closest failures) =
    no_match (record {
      input_fields = map string_bytes input_fields.items;
      missing_required = names_of missing_required.items;
      missing_required_detailed = map missing_view missing.items;
      unknown_fields = map string_bytes unknown_fields.items;
      closest_resolution = optional_name closest;
      candidate_failures = map failure_view failures.items;
    })
error_view (Ambiguous candidates fields) = ambiguous (record {
  candidates = map string_bytes candidates.items;
  disambiguating_fields = map string_bytes fields.items;
})
error_view OutOfMemory = out_of_memory
