-- What the words of a command line ask.
use Rattle.std.specs.Prelude.{◌≡◌, ◌==◌, ◌&&◌, ◌++◌, ◌+◌, ⊤, Bool, ℕ, List, [], ◌∷◌, Option, Some, None, Result, Ok, Err, codes, drop, filter, find, not, option_map, position, slice_get, slice_index, take, if◌then◌else◌}
use Rattle.std.specs.Borrow.{Bor}
use Rattle.std.specs.List.{list_any}
use Rattle.std.specs.Option.{option_map_or}
use Rattle.facet_solver_shape.specs.Names.{Name, name_eq}
use Rattle.facet_solver_reader.specs.declared.reader.Unknown.{Unknown}
use Rattle.facet_solver_reader.specs.declared.reader.Unknown.TheVariants.{Ignored, Refused}
use Rattle.facet_solver_tool.specs.declared.arguments.ArgumentError.{ArgumentError}
use Rattle.facet_solver_tool.specs.declared.arguments.ArgumentError.TheVariants as errors
use Rattle.facet_solver_tool.specs.declared.arguments.Misuse as misuse
use Rattle.facet_solver_tool.specs.declared.arguments.Misuse.TheVariants as misuses
use Rattle.facet_solver_tool.specs.declared.arguments.Request as request
use Rattle.facet_solver_tool.specs.declared.arguments.Request.TheVariants as requests
use Rattle.facet_solver_tool.specs.declared.question.Form.{Form}
use Rattle.facet_solver_tool.specs.declared.question.Form.TheVariants.{Text, Json}
use Rattle.facet_solver_tool.specs.declared.question.Manner.{Manner}
use Rattle.facet_solver_tool.specs.declared.question.Task.{Task}
use Rattle.facet_solver_tool.specs.declared.question.Task.TheVariants.{Read, Check, Catalogue}
use Rattle.facet_solver_tool.specs.Questions.{Question, lines_view, question_view}

-- what is asked for: how the program is called, its version, the answer to a question, or the
-- answers to one about each line
pub data Request : Type 0 where
  help : Request
  version : Request
  ask : Question → Request
  ask_lines : Question → Request

-- what words name: the path of the file of types, and the name of the root, if one is named
pub record Subject : Type 0 where
  pub types : Name
  pub root : Option Name

-- why words ask nothing
pub data Misuse : Type 0 where
  no_command : Misuse
  no_such_command : Name → Misuse
  no_such_option : Name → Misuse
  no_types : Misuse
  too_many : Name → Misuse
  no_accepted : Misuse

-- what words ask, or why they ask nothing
abbrev pub Outcome : Type 0
Outcome = Result Request Misuse

-- whether a word begins with a dash
abbrev pub is_option : Name → Bool
is_option word = slice_index word 0 == 45

-- whether a word has unknown members refused
abbrev pub is_strict : Name → Bool
is_strict word = name_eq word (codes "--strict")

-- whether a word has the reading written as JSON
abbrev pub is_json : Name → Bool
is_json word = name_eq word (codes "--json")

-- whether a word has each line read as a document
abbrev pub is_lines : Name → Bool
is_lines word = name_eq word (codes "--lines")

-- whether a word names the file of accepted ambiguities by the next one
abbrev pub is_accept : Name → Bool
is_accept word = name_eq word (codes "--accept")

-- whether a word behind 'check' doesn't say how a check is answered
abbrev pub is_operand_of_check : Name → Bool
is_operand_of_check word = not (is_strict word) && not (is_json word)

-- whether a word behind 'read' doesn't say how documents are read
abbrev pub is_operand : Name → Bool
is_operand word = (not (is_strict word) && not (is_json word)) && not (is_lines word)

-- what words name, of which none is an option
abbrev pub named : List Name → Result Subject Misuse
named [] = Err no_types
named (types ∷ []) = Ok record { types = types; root = None }
named (types ∷ root ∷ []) = Ok record { types = types; root = Some root }
named (types ∷ root ∷ word ∷ words) = Err (too_many word)

-- the same, unless a word is an option, which the first is
abbrev pub unless_option : Option Name → Result Subject Misuse → Result Subject Misuse
unless_option None subject = subject
unless_option (Some word) subject = Err (no_such_option word)

-- what words name
abbrev pub subject : List Name → Result Subject Misuse
subject words = unless_option (find is_option words) (named words)

-- the question of a task about a subject, with the file of accepted ambiguities, if one is named
abbrev pub about : Task → Option Name → Subject → Question
about task accepted s =
    record { task = task; types = s.types; root = s.root; accepted = accepted }

-- what is asked about a subject, if there is one
abbrev pub asked : (Subject → Request) → Result Subject Misuse → Outcome
asked request (Ok s) = Ok (request s)
asked request (Err misuse) = Err misuse

-- the question of a task about what words name
abbrev pub question : Task → Option Name → List Name → Outcome
question task accepted words = asked (λ s. ask (about task accepted s)) (subject words)

-- how a document of a line is read
abbrev pub of_line : Unknown → Task
of_line unknown = Read (record { unknown = unknown; form = Json })

-- the question about each line, and about what words name
abbrev pub question_of_lines : Unknown → List Name → Outcome
question_of_lines unknown words =
    asked (λ s. ask_lines (about (of_line unknown) None s)) (subject words)

-- what is done with unknown members
abbrev pub unknown : List Name → Unknown
unknown words = if list_any is_strict words then Refused else Ignored

-- how the reading is written
abbrev pub form : List Name → Form
form words = if list_any is_json words then Json else Text

-- how a document is read
abbrev pub manner : List Name → Manner
manner words = record { unknown = unknown words; form = form words }

-- what the words behind 'read' ask, of which these don't say how documents are read
abbrev pub read_operands : List Name → List Name → Outcome
read_operands words operands =
    if list_any is_lines words then question_of_lines (unknown words) operands
    else question (Read (manner words)) None operands

-- what the words behind 'read' ask
abbrev pub read : List Name → Outcome
read words = read_operands words (filter is_operand words)

-- what the words behind 'check' ask, without those that name the file of accepted ambiguities
abbrev pub check_accepting : Option Name → List Name → Outcome
check_accepting accepted words =
    question (Check (manner words)) accepted (filter is_operand_of_check words)

-- the same, where the word of an index says that the next one names that file
abbrev pub check_accepting_at : List Name → ℕ → Outcome
check_accepting_at words at =
    option_map_or (λ file. check_accepting (Some file) (take at words ++ drop (at + 2) words))
    (slice_get words (at + 1)) (Err no_accepted)

-- what the words behind 'check' ask: the first '--accept' counts
abbrev pub check : List Name → Outcome
check words =
    option_map_or (check_accepting_at words) (position is_accept words)
    (check_accepting None words)

-- a request that has no other words
abbrev pub alone : Request → List Name → Outcome
alone request [] = Ok request
alone request (word ∷ words) = Err (too_many word)

-- what the words behind a command ask
abbrev pub command : Name → List Name → Outcome
command word words =
    if name_eq word (codes "--help") then alone help words
    else if name_eq word (codes "--version") then alone version words
    else if name_eq word (codes "read") then read words
    else if name_eq word (codes "check") then check words
    else if name_eq word (codes "catalogue") then question Catalogue None words
    else Err (no_such_command word)

-- what the words behind the program's name ask
abbrev pub requested : List Name → Outcome
requested [] = Err no_command
requested (word ∷ words) = command word words

-- what is seen of a request
abbrev pub request_view : request.Request → Request
request_view requests.Help = help
request_view requests.Version = version
request_view (requests.Ask question) = ask (question_view question)
request_view (requests.Lines question) = ask_lines (lines_view question)

-- what is seen of a misuse
abbrev pub misuse_of : misuse.Misuse → Misuse
misuse_of misuses.NoCommand = no_command
misuse_of (misuses.NoSuchCommand word) = no_such_command word.now
misuse_of (misuses.NoSuchOption word) = no_such_option word.now
misuse_of misuses.NoTypes = no_types
misuse_of (misuses.TooMany word) = too_many word.now
misuse_of misuses.NoAccepted = no_accepted

-- what is seen of an error: a misuse, unless memory was refused
abbrev pub misuse_view : ArgumentError → Option Misuse
misuse_view (errors.Misuse misuse) = Some (misuse_of misuse)
misuse_view errors.OutOfMemory = None

-- an error tells a misuse, unless memory was refused
abbrev pub IsMisuse : {A : Type 0} → Result A Misuse → Option Misuse → Type 0
IsMisuse outcome None = ⊤
IsMisuse outcome (Some misuse) = outcome ≡ Err misuse

-- a result tells what is asked
abbrev pub IsAsked : Outcome → Result request.Request misuse.Misuse → Type 0
IsAsked outcome (Ok made) = outcome ≡ Ok (request_view made)
IsAsked outcome (Err misuse) = outcome ≡ Err (misuse_of misuse)

-- the same, unless memory was refused
abbrev pub Asks : Outcome → Result request.Request ArgumentError → Type 0
Asks outcome (Ok made) = outcome ≡ Ok (request_view made)
Asks outcome (Err error) = IsMisuse outcome (misuse_view error)

-- what is seen of a subject
abbrev pub subject_view : Bor Name × Option (Bor Name) → Subject
subject_view s = record { types = s.0.now; root = option_map (λ name. name.now) s.1 }

-- a result tells what words name
abbrev pub Names
    : Result Subject Misuse → Result (Bor Name × Option (Bor Name)) misuse.Misuse → Type 0
Names outcome (Ok made) = outcome ≡ Ok (subject_view made)
Names outcome (Err misuse) = outcome ≡ Err (misuse_of misuse)
