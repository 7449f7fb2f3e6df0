-- The texts that attributes say.
use Rattle.std.specs.Prelude.{ℕ, Bool, true, false, ◌&&◌, if◌then◌else◌, List, Option, Some, None, Result, Ok, Err}
use Rattle.std.specs.Option.{is_none}
use Rattle.facet_solver_types.specs.declared.attribute.meaning.Meaning.{Meaning}
use Rattle.facet_solver_types.specs.declared.attribute.meaning.Meaning.TheVariants.{RenameAll, RenameAllFields}
use Rattle.facet_solver_types.specs.declared.fault.Fault.{Fault}
use Rattle.facet_solver_types.specs.declared.fault.Fault.TheVariants.{At}
use Rattle.facet_solver_types.specs.declared.attribute.refusal.Refusal.TheVariants as refusal
use Rattle.facet_solver_types.specs.declared.problem.Problem.TheVariants as problem
use Rattle.facet_solver_types.specs.declared.token.TokenKind.{TokenKind}
use Rattle.facet_solver_types.specs.declared.token.TokenKind.TheVariants.{RawText, Text}
use Rattle.facet_solver_types.specs.Cases.{named}
use Rattle.facet_solver_types.specs.Literals.{quoted_value, raw_value}
use Rattle.facet_solver_types.specs.Tokens.{Token}

-- what a token of this kind and text says, if it is a text
abbrev pub text_by : TokenKind → List ℕ → Option (List ℕ)
text_by Text text = quoted_value text
text_by RawText text = raw_value text
text_by kind text = None

-- what a token says, if it is a text
abbrev pub text_of : Token → Option (List ℕ)
text_of token = text_by token.kind token.text

-- whether the text of an attribute names a case
abbrev pub names_case : Meaning → Bool
names_case RenameAll = true
names_case RenameAllFields = true
names_case meaning = false

-- a text that was read, which should name a case or not, at an offset
abbrev pub checked_text : Bool → ℕ → Option (List ℕ) → Result (List ℕ) Fault
checked_text is_case offset None = Err (At offset (problem.Attribute refusal.NoText))
checked_text is_case offset (Some text) =
    if is_case && is_none (named text)
    then Err (At offset (problem.Attribute refusal.NoCase)) else Ok text

-- the text that an attribute of that meaning says
abbrev pub said_text : Meaning → Token → Result (List ℕ) Fault
said_text meaning token = checked_text (names_case meaning) token.offset (text_of token)
