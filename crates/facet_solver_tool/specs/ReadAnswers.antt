-- What a reader answers about a document.
use Rattle.std.specs.Prelude.{◌≡◌, ◌++◌, ℕ, List, Option, Some, None, IsUtf8, codes}
use Rattle.facet_solver_json.specs.declared.error.JsonError.{JsonError}
use Rattle.facet_solver_json.specs.declared.error.JsonError.TheVariants.{Invalid}
use Rattle.facet_solver_json.specs.declared.reason.Reason.{Reason}
use Rattle.facet_solver_json.specs.ErrorTexts.{error_text}
use Rattle.facet_solver_json.specs.Places.{HasPlace}
use Rattle.facet_solver_json.specs.Values.{parse}
use Rattle.facet_solver_reader.specs.declared.read_error.ReadError.{ReadError}
use Rattle.facet_solver_reader.specs.declared.read_error.ReadError.TheVariants as errors
use Rattle.facet_solver_reader.specs.declared.reading.Reading.{Reading}
use Rattle.facet_solver_reader.specs.Documents.{Tree}
use Rattle.facet_solver_reader.specs.Parts.{of_shape}
use Rattle.facet_solver_reader.specs.Readers.{ReaderView}
use Rattle.facet_solver_reader.specs.Told.{IsOnlyTold}
use Rattle.facet_solver_reader.specs.Types.{rules_of}
use Rattle.facet_solver_reader.specs.Why.{IsWhyNot}
use Rattle.facet_solver_tool.specs.declared.status.Status.{Status}
use Rattle.facet_solver_tool.specs.declared.status.Status.TheVariants.{Answered, NoReading, SeveralReadings, BadDocument}
use Rattle.facet_solver_tool.specs.Answer.{Answer, says}
use Rattle.facet_solver_tool.specs.Utf8.{no_utf8_text}

-- a reader has this only reading of a document
abbrev pub IsReading : ReaderView → Tree → Reading → Type 0
IsReading r = IsOnlyTold (rules_of r.shapes r.strict) r.shapes (of_shape r.root)

-- an error tells why a reader does not read a document
abbrev pub IsUnread : ReaderView → Tree → ReadError → Type 0
IsUnread r = IsWhyNot (rules_of r.shapes r.strict) (of_shape r.root)

-- how an answer ends that tells such an error, unless memory was refused
abbrev pub status_of : ReadError → Option Status
status_of (errors.NoReading none) = Some NoReading
status_of (errors.Several several) = Some SeveralReadings
status_of (errors.NameTwice place) = Some BadDocument
status_of errors.OutOfMemory = None

-- how a reader's answer to a document ends: with its only reading, or why it is not read
pub data EndsTree (r : ReaderView) (v : Tree) (status : Status) : Type 0 where
  is_read : (w : Reading) → IsReading r v w → status ≡ Answered → EndsTree r v status
  is_unread : (error : ReadError) → IsUnread r v error → Some status ≡ status_of error
      → EndsTree r v status

-- the text that tells where and why a document is no JSON
abbrev pub no_json_text : JsonError → List ℕ
no_json_text error = codes "document:" ++ error_text error

-- a reader's answer to the text of a document
pub data AnswersText (r : ReaderView) (text : List ℕ) (a : Answer) : Type 0 where
  no_json : (line column : ℕ) (reason : Reason)
      → parse text ≡ None → HasPlace (Invalid line column reason) text
      → a ≡ says BadDocument (no_json_text (Invalid line column reason)) → AnswersText r text a
  is_json : (v : Tree) → parse text ≡ Some v → EndsTree r v a.status → AnswersText r text a

-- a reader's answer to the bytes of a document
pub data AnswersBytes (r : ReaderView) (bytes : List ℕ) (a : Answer) : Type 0 where
  no_utf8 : ¬ (IsUtf8 bytes) → a ≡ says BadDocument (no_utf8_text (codes "document") bytes)
      → AnswersBytes r bytes a
  is_utf8 : IsUtf8 bytes → AnswersText r bytes a → AnswersBytes r bytes a
