-- What `finish` answers where a state ends with a resolution or lists it.
use Rattle.std.specs.Prelude.{◌≡◌, ◌≢◌, ℕ, List, Result, Ok, Err, Some, length, map, slice_get, string_bytes}
use Rattle.facet_solver_shape.specs.Names.{Name}
use Rattle.facet_solver.specs.declared.error.SolverError.{SolverError}
use Rattle.facet_solver.specs.declared.error.SolverError.TheVariants.{Ambiguous, OutOfMemory}
use Rattle.facet_solver.specs.declared.schema.handle.ResolutionHandle.{ResolutionHandle}
use Rattle.facet_solver.specs.schema.ResolutionHandle.{index_of}
use Rattle.facet_solver.specs.solver.State.{State}
use Rattle.facet_solver.specs.solver.Report.{viable}

-- a text stands among the descriptions of all viable candidates where an index stands among these
pub record StandsAtPlace (s : State) (index : ℕ) (text : Name) (descriptions : List Name)
    : Type 0 where
  pub place : ℕ
  pub at_place : slice_get (viable s) place ≡ Some index
  pub described : slice_get descriptions place ≡ Some text

-- an answer gives the index of a resolution, or names it by its description at its place, or says
-- that memory ran out where not one candidate alone is viable; never that none is
abbrev pub GivesOrNames : State → ℕ → Name → Result ResolutionHandle SolverError → Type 0
GivesOrNames s index text (Ok handle) = index_of handle ≡ index
GivesOrNames s index text (Err (Ambiguous candidates fields)) =
    StandsAtPlace s index text (map string_bytes candidates.items)
GivesOrNames s index text (Err OutOfMemory) = length (viable s) ≢ 1
GivesOrNames s index text (Err no_match) = ⊥
