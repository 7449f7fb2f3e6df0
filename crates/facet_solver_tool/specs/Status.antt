-- How a run ends.
use Rattle.std.specs.Prelude.{ℕ}
use Rattle.facet_solver_tool.specs.declared.status.Status.{Status}
use Rattle.facet_solver_tool.specs.declared.status.Status.TheVariants.{Answered, NoReading, SeveralReadings, BadTypes, BadDocument, OutOfMemory, Misused, Unwritten, Ambiguous, MaybeAmbiguous, Outdated}

-- the status of the process
abbrev pub code : Status → ℕ
code Answered = 0
code NoReading = 1
code SeveralReadings = 2
code BadTypes = 3
code BadDocument = 4
code OutOfMemory = 5
code Misused = 64
code Unwritten = 74
code Ambiguous = 2
code MaybeAmbiguous = 6
code Outdated = 7
