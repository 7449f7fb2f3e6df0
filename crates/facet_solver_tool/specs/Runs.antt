-- How a run ends, and what it writes.
use Rattle.std.specs.Prelude.{◌≡◌, ◌⊎◌, ⊤, Bool, ℕ, List, [], Option, Some, None, Ok, Err, IfSome}
use Rattle.facet_solver_shape.specs.Names.{Name}
use Rattle.facet_solver_tool.specs.declared.question.Task.{Task}
use Rattle.facet_solver_tool.specs.declared.question.Task.TheVariants.{Read, Check, Catalogue}
use Rattle.facet_solver_tool.specs.declared.status.Status.TheVariants.{Answered, Misused}
use Rattle.facet_solver_tool.specs.Answer.{Answer, refused, says}
use Rattle.facet_solver_tool.specs.Answers.{IsAnswer}
use Rattle.facet_solver_tool.specs.Lines.{AnswersLines}
use Rattle.facet_solver_tool.specs.Misuses.{misuse_text}
use Rattle.facet_solver_tool.specs.Questions.{Question}
use Rattle.facet_solver_tool.specs.Requests.{Outcome, help, version, ask, ask_lines, requested}
use Rattle.facet_solver_tool.specs.Streams.{Ran, EndsWith}

-- the document of a question: what an input has left, where it is to be read, and else nothing
abbrev pub document_of : Task → Option (List ℕ) → Option (List ℕ)
document_of (Read manner) input = input
document_of (Check manner) input = Some []
document_of Catalogue input = Some []

-- what is read beside the types of a question: the bytes of the file of accepted ambiguities, where
-- one is named, and else the document
abbrev pub IsGiven : Task → Option Name → Option (List ℕ) → List ℕ → Type 0
IsGiven task (Some accepted) input given = ⊤
IsGiven task None input given = IfSome (document_of task input) (λ document. given ≡ document)

-- the answer to a question about the types that bytes declare: what is read beside them cannot be
-- read, or it is about that
abbrev pub AnswersFile : Question → List ℕ → Option (List ℕ) → Answer → Type 0
AnswersFile q types input a =
    (a.status ≡ Misused)
    ⊎ ((given : List ℕ) × IsGiven q.task q.accepted input given × IsAnswer q types given a)

-- the answer to a question: the file cannot be read, or it is about the types in it
abbrev pub AnswersQuestion : Question → Option (List ℕ) → Answer → Type 0
AnswersQuestion q input a =
    (a.status ≡ Misused) ⊎ ((types : List ℕ) × AnswersFile q types input a)

-- the answer to what words ask; where they ask about each line, the file cannot be read
abbrev pub AnswersOutcome : Outcome → Option (List ℕ) → Answer → Type 0
AnswersOutcome (Ok help) input a = a.status ≡ Answered
AnswersOutcome (Ok version) input a = a.status ≡ Answered
AnswersOutcome (Ok (ask q)) input a = AnswersQuestion q input a
AnswersOutcome (Ok (ask_lines q)) input a = a.status ≡ Misused
AnswersOutcome (Err misuse) input a = a ≡ says Misused (misuse_text misuse)

-- the answer to words, over what an input has left
abbrev pub AnswersWords : List Name → Option (List ℕ) → Answer → Type 0
AnswersWords words input a = AnswersOutcome (requested words) input a

-- the answer to a run: the arguments cannot be read, or it is the answer to some words
abbrev pub AnswersRun : Option (List ℕ) → Answer → Type 0
AnswersRun input a = (a.status ≡ Misused) ⊎ ((words : List Name) × AnswersWords words input a)

-- what is told of a run: the answer to it, or that memory was refused
abbrev pub IsRun : Option (List ℕ) → Answer → Type 0
IsRun input a = AnswersRun input a ⊎ (a ≡ refused)

-- a run that answers a question about each line: some types are in the file, and the errors are a
-- terminal or not
abbrev pub AnswersFileLines : Question → Ran → Type 0
AnswersFileLines q r =
    (types : List ℕ) × (is_terminal : Bool) × AnswersLines (IsAnswer q types) is_terminal r

-- a run that answers words which ask about each line
abbrev pub AnswersEachLine : Outcome → Ran → Type 0
AnswersEachLine outcome r =
    (q : Question) × (outcome ≡ Ok (ask_lines q)) × AnswersFileLines q r

-- a run that answers a question about each line, or tells why it cannot
abbrev pub EndsLines : Question → Ran → Type 0
EndsLines q r =
    ((a : Answer) × ((a.status ≡ Misused) ⊎ (a ≡ refused)) × EndsWith r a) ⊎ AnswersFileLines q r

-- how the words of a command line are answered: by one answer to them, or about each line
abbrev pub EndsWords : List Name → Ran → Type 0
EndsWords words r =
    ((a : Answer) × (AnswersWords words r.input a ⊎ (a ≡ refused)) × EndsWith r a)
    ⊎ AnswersEachLine (requested words) r

-- how a run is answered: by one answer to it, or about each line
abbrev pub EndsRun : Ran → Type 0
EndsRun r =
    ((a : Answer) × IsRun r.input a × EndsWith r a)
    ⊎ ((words : List Name) × AnswersEachLine (requested words) r)
