-- What the program answers to the bytes of an input.
use Rattle.std.specs.Prelude.{◌≡◌, ◌<◌, ◌≤◌, ℕ, ◌++◌, List, [], ◌∷◌, Option, Some, None, IfSome, codes, length, map, slice_get, ⊤}
use Rattle.std.specs.Fmt.{decimal}
use Rattle.serde_json.specs.Data.{Data, Members}
use Rattle.facet_solver.specs.declared.CatalogueError.{CatalogueError}
use Rattle.facet_solver.specs.declared.DuplicateFieldError.{DuplicateFieldError}
use Rattle.facet_solver.specs.declared.SchemaError.TheVariants.{DuplicateField}
use Rattle.facet_solver.specs.declared.error.SolverError.{SolverError}
use Rattle.facet_solver.specs.declared.error.SolverError.TheVariants.{OutOfMemory}
use Rattle.facet_solver.specs.build.Build.{Build, Catalogue}
use Rattle.facet_solver.specs.Catalogues.{IsChecked, IsFirstFault, number_of}
use Rattle.facet_solver.specs.build.Choice.{IsChoiceDuplicate}
use Rattle.facet_solver.specs.build.Count.{count_of_root}
use Rattle.facet_solver.specs.error.ErrorTexts.{error_output}
use Rattle.facet_solver.specs.error.ErrorView.{ErrorView}
use Rattle.facet_solver.specs.Representation.{Repr, externally_tagged, flattened}
use Rattle.facet_solver.specs.Resolved.{Resolved, description}
use Rattle.facet_solver.specs.schema.Schema.{IsBuilt, SchemaView, flat_build}
use Rattle.facet_solver.specs.SchemaErrorText.{schema_error_text}
use Rattle.facet_solver.specs.solver.State.{State, new_solver}
use Rattle.facet_solver.specs.solver.Report.{report_of, viable}
use Rattle.facet_solver_program.specs.declared.decode.word.Builder.{Builder}
use Rattle.facet_solver_program.specs.declared.decode.word.Builder.TheVariants.{Flattened, Auto, External}
use Rattle.facet_solver_program.specs.Document.{members_below}
use Rattle.facet_solver_program.specs.Input.{Input, decode}
use Rattle.facet_solver_program.specs.Members.{given}
use Rattle.facet_solver_program.specs.Reading.{IsReading, whole}
use Rattle.facet_solver_program.specs.ShapeView.{shape_view}
use Rattle.facet_solver_program.specs.Tell.{tell}

-- how a run ends: as a bad input, with a fault of the shapes, with more resolutions than are built,
-- with a duplicate key of a choice, with one resolution and its index, or with what the solver
-- reports
pub data Ending : Type 0 where
  bad_input : Ending
  bad_catalogue : CatalogueError → Ending
  too_many_resolutions : Ending
  duplicate_field : DuplicateFieldError → Ending
  resolved : ℕ → Resolved → Ending
  reported : ErrorView → Ending

-- the status of an end
abbrev pub status_of : Ending → ℕ
status_of bad_input = 4
status_of (bad_catalogue fault) = 3
status_of too_many_resolutions = 2
status_of (duplicate_field duplicate) = 2
status_of (resolved index resolution) = 0
status_of (reported report) = 1

-- what is stated of the text of an end: its bytes, those of a report only where all names in its
-- lists are ASCII
abbrev pub text_of : Ending → Option (List ℕ)
text_of bad_input = Some (codes "bad input")
text_of (bad_catalogue fault) = Some (codes "bad catalogue " ++ decimal (number_of fault))
text_of too_many_resolutions = Some (codes "too many resolutions")
text_of (duplicate_field duplicate) = Some (schema_error_text (DuplicateField duplicate))
text_of (resolved index resolution) =
    Some (codes "resolved " ++ (decimal index ++ (codes ": " ++ description resolution.selections)))
text_of (reported report) = error_output report

-- a status and a text say an end
abbrev pub Says : ℕ → List ℕ → Ending → Type 0
Says status text ending = (status ≡ status_of ending) × IfSome (text_of ending) (λ t. text ≡ t)

-- what a builder gives all flattened enums, or none where each enum's own attributes decide
abbrev pub representation : Builder → Option Repr
representation Flattened = Some flattened
representation Auto = None
representation External = Some externally_tagged

-- what a builder goes by
abbrev pub build : Catalogue → Builder → Build
build shapes builder = flat_build shapes (representation builder)

-- an error of a solver reports more than out of memory
abbrev pub IsReport : SolverError → Type 0
IsReport OutOfMemory = ⊥
IsReport _ = ⊤

-- the state of a solver ends with its one viable candidate, or else with the report on it
abbrev pub IsVerdict : State → Ending → Type 0
IsVerdict s (resolved index resolution) =
    (viable s ≡ index ∷ []) × (slice_get s.schema.resolutions index ≡ Some resolution)
IsVerdict s (reported report) = report_of s ≡ Some report
IsVerdict s _ = ⊥

-- a document of a schema ends with the verdict of a new solver that is told it
abbrev pub IsEndOfDocument : SchemaView → Members → Ending → Type 0
IsEndOfDocument schema document ending =
    let told = members_below [] document in
    IsVerdict (tell schema.build.catalogue told (new_solver schema)) ending

-- a root ends with too many resolutions where it has more than 4,096. Else it ends with a duplicate
-- key of one of its choices, or it has a schema, and ends with its document
abbrev pub IsEndOfRoot : Build → ℕ → Members → Ending → Type 0
IsEndOfRoot build root document too_many_resolutions = 4096 < count_of_root build root
IsEndOfRoot build root document (duplicate_field duplicate) =
    (count_of_root build root ≤ 4096)
    × IsChoiceDuplicate build root
    duplicate.field_name.now duplicate.first_path duplicate.second_path
IsEndOfRoot build root document ending =
    (count_of_root build root ≤ 4096)
    × (schema : SchemaView) × IsBuilt build root schema × IsEndOfDocument schema document ending

-- shapes end with their first fault. Where they have none, a root that they lack is a bad input,
-- and else they end with the root
abbrev pub IsEndOfShapes : Catalogue → Input → Ending → Type 0
IsEndOfShapes shapes input (bad_catalogue fault) = IsFirstFault shapes fault
IsEndOfShapes shapes input bad_input = IsChecked shapes × (length shapes ≤ input.root)
IsEndOfShapes shapes input ending =
    IsChecked shapes × (input.root < length shapes)
    × IsEndOfRoot (build shapes input.builder) input.root input.document ending

-- what is no input is a bad one, and an input ends with its shapes
abbrev pub IsEndOfInput : Option Input → Ending → Type 0
IsEndOfInput None ending = ending ≡ bad_input
IsEndOfInput (Some input) ending =
    (shapes : Catalogue) × (map shape_view shapes ≡ input.shapes)
    × IsEndOfShapes shapes input ending

-- bytes end with the input that they say as JSON
abbrev pub IsEndOfBytes : List ℕ → Ending → Type 0
IsEndOfBytes bytes ending =
    (read : Option Data) × IsReading bytes read × IsEndOfInput (given (whole read) decode) ending

-- a status and a text are an answer to bytes: they say an end of these
pub record IsAnswer (bytes : List ℕ) (status : ℕ) (text : List ℕ) : Type 0 where
  pub ending : Ending
  pub is : IsEndOfBytes bytes ending
  pub said : Says status text ending
