-- What bytes are as JSON.
use Rattle.std.specs.Prelude.{◌≡◌, ℕ, List, Option, Some, None, IsUtf8, if◌then◌else◌}
use Rattle.serde_json.specs.Data.{Data}
use Rattle.serde_json.specs.Read.{read}
use Rattle.serde_json.specs.Written.{has_float}
use Rattle.facet_solver_program.specs.Members.{given}

-- what bytes are as JSON, or that they are none: bytes that are no UTF-8 are none
abbrev pub IsReading : List ℕ → Option Data → Type 0
IsReading bytes None = IsUtf8 bytes → read bytes ≡ None
IsReading bytes (Some d) = IsUtf8 bytes × (read bytes ≡ Some d)

-- a value whose numbers are whole: what is read neither as u64 nor as i64 is read as a float
abbrev pub whole_value : Data → Option Data
whole_value d = if has_float d then None else Some d

-- what is read, if its numbers are whole
abbrev pub whole : Option Data → Option Data
whole read = given read whole_value
