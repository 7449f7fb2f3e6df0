-- What the keys of one choice come to, and what any keys do.
use Rattle.std.specs.Prelude.{◌≡◌, ℕ, List, [], ◌∷◌, Result, Ok, Err, Some, ⊤, map, slice_get}
use Rattle.facet_solver.specs.build.Build.{Build}
use Rattle.facet_solver.specs.build.Choice.{ListsChoices}
use Rattle.facet_solver.specs.Keys.{Key, key_of}
use Rattle.facet_solver.specs.Resolved.{Resolved, description}
use Rattle.facet_solver.specs.schema.Schema.{IsBuilt, SchemaView}
use Rattle.facet_solver.specs.schema.ResolutionHandle.{IsHandleOf, index_of}
use Rattle.facet_solver.specs.solver.Found.{GivesOrNames}
use Rattle.facet_solver.specs.solver.State.{State, new_solver}
use Rattle.facet_solver.specs.solver.Told.{TellsChoice, see_keys}
use Rattle.facet_solver.specs.solver.Report.{IsReportOn, viable}
use Rattle.facet_solver.specs.declared.FieldKey.{FieldKey}
use Rattle.facet_solver.specs.declared.ResolutionHandle.{ResolutionHandle}
use Rattle.facet_solver.specs.declared.SolverError.{SolverError}
use Rattle.facet_solver.specs.declared.SolverError.TheVariants.{OutOfMemory}

-- what keys say, wherever their names lie
abbrev pub keys_of : List FieldKey → List Key
keys_of keys = map key_of keys

-- something holds of an answer, unless it says that memory ran out
abbrev pub UnlessOutOfMemory : (Result ResolutionHandle SolverError → Type 0)
    → Result ResolutionHandle SolverError → Type 0
UnlessOutOfMemory Holds (Err OutOfMemory) = ⊤
UnlessOutOfMemory Holds answer = Holds answer

-- where keys tell a choice of the root that a schema was built of, the answer gives its index, or
-- names it by its description at its place among all that are viable; never that none is
abbrev pub FindsChoice : SchemaView → List Key → Result ResolutionHandle SolverError → Type 0
FindsChoice schema keys answer =
    (build : Build) (root : ℕ) → IsBuilt build root schema
    → (choices : List (List ℕ)) → ListsChoices build root choices
    → (index : ℕ) (choice : List ℕ) → slice_get choices index ≡ Some choice
    → (r : Resolved) → TellsChoice build root choice keys r
    → UnlessOutOfMemory
    (GivesOrNames (see_keys keys (new_solver schema)) index (description r.selections)) answer

-- a handle is that of the only viable resolution; an error is the report on the state, or says
-- that memory ran out
abbrev pub IsChoiceVerdict : State → Result ResolutionHandle SolverError → Type 0
IsChoiceVerdict s (Ok handle) = (viable s ≡ index_of handle ∷ []) × IsHandleOf s.schema handle
IsChoiceVerdict s (Err error) = IsReportOn s error
