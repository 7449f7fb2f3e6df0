-- The text of an error.
use Rattle.std.specs.Prelude.{ℕ, List, ◌++◌, codes}
use Rattle.std.specs.Fmt.{decimal}
use Rattle.facet_solver_json.specs.declared.error.JsonError.{JsonError}
use Rattle.facet_solver_json.specs.declared.error.JsonError.TheVariants.{Invalid, OutOfMemory}
use Rattle.facet_solver_json.specs.declared.reason.Reason.{Reason}
use Rattle.facet_solver_json.specs.declared.reason.Reason.TheVariants as why

-- what was wrong
abbrev pub reason_text : Reason → List ℕ
reason_text why.Value = codes "a value was expected"
reason_text why.Text =
    codes "the text in quotes has no end, or a character or escape that is not allowed"
reason_text why.Number = codes "no number is written so"
reason_text why.Name = codes "a name in quotes and ':' were expected"
reason_text why.NoName = codes "a name with ':' stands in an object alone"
reason_text why.InList = codes "',' or ']' was expected"
reason_text why.InObject = codes "',' or '}' was expected"
reason_text why.Behind = codes "nothing may stand behind the value"
reason_text why.TooDeep = codes "more than 128 lists and objects nest"

-- line and column first, and then why, where the text is no JSON
abbrev pub error_text : JsonError → List ℕ
error_text (Invalid line column reason) =
    decimal line
    ++ (codes ":" ++ (decimal column ++ (codes ": invalid JSON: " ++ reason_text reason)))
error_text OutOfMemory = codes "out of memory"
