-- The texts of misuses.
use Rattle.std.specs.Prelude.{◌≡◌, ◌++◌, List, ℕ, Option, Some, None, codes}
use Rattle.facet_solver_tool.specs.declared.status.Status.TheVariants.{Misused}
use Rattle.facet_solver_tool.specs.Answer.{Answer, says}
use Rattle.facet_solver_tool.specs.Requests.{Misuse, no_command, no_such_command, no_such_option, no_types, no_accepted, too_many}

-- the text of a misuse
abbrev pub misuse_text : Misuse → List ℕ
misuse_text no_command = codes "no command; --help lists them"
misuse_text (no_such_command word) =
    codes "no command '" ++ (word ++ codes "'; --help lists them")
misuse_text (no_such_option word) = codes "no option '" ++ (word ++ codes "' here")
misuse_text no_types = codes "no file of types is named"
misuse_text (too_many word) = codes "'" ++ (word ++ codes "' is a word too many")
misuse_text no_accepted = codes "no FILE stands behind --accept"

-- the answer that tells a misuse, where memory was not refused
abbrev pub TellsMisuse : Option Misuse → Answer → Type 0
TellsMisuse None a = ⊥
TellsMisuse (Some misuse) a = a ≡ says Misused (misuse_text misuse)
