-- Errors of readers and of documents that tell more than that memory was refused.
use Rattle.std.proofs.Common.{◌≡◌, ◌≢◌, ℕ, List, None, refl}
use Rattle.facet_solver_json.specs.declared.error.JsonError.{JsonError}
use Rattle.facet_solver_json.specs.declared.error.JsonError.TheVariants as json_errors
use Rattle.facet_solver_json.specs.declared.reason.Reason.{Reason}
use Rattle.facet_solver_json.specs.Places.{HasPlace}
use Rattle.facet_solver_json.specs.Values.{parse}
use Rattle.facet_solver_reader.specs.declared.reader.error.TypeError.{TypeError}
use Rattle.facet_solver_reader.specs.declared.reader.error.TypeError.TheVariants as type_errors
use Rattle.facet_solver_reader.specs.Readers.{IsRefused, ReaderView}
use Rattle.facet_solver_shape.specs.Catalogues.{Catalogue}
use Rattle.facet_solver_tool.specs.declared.status.Status.TheVariants.{BadDocument}
use Rattle.facet_solver_tool.specs.Answer.{Answer, says}
use Rattle.facet_solver_tool.specs.ReadAnswers.{AnswersText, no_json, no_json_text}
use Rattle.facet_solver_tool.specs.RootAnswers.{IsFault}

-- why a type is refused is a fault of it
pub fault_of_refusal : (shapes : Catalogue) (root : ℕ) (error : TypeError)
    → error ≢ type_errors.OutOfMemory → IsRefused shapes root error → IsFault shapes root error
fault_of_refusal shapes root (type_errors.NoShape s) more refused = refused
fault_of_refusal shapes root (type_errors.ReadsItself s n) more refused = refused
fault_of_refusal shapes root (type_errors.ContainsItself s n) more refused = refused
fault_of_refusal shapes root (type_errors.DuplicateName s n x p q) more refused = refused
fault_of_refusal shapes root (type_errors.TwoCatchAlls s n p q) more refused = refused
fault_of_refusal shapes root type_errors.OutOfMemory more refused = absurd (more refl)

-- an error of JSON answers a text that is none
pub answers_no_json : (r : ReaderView) (text : List ℕ) (error : JsonError) (a : Answer)
    → error ≢ json_errors.OutOfMemory
    → ((line column : ℕ) (reason : Reason) → error ≡ json_errors.Invalid line column reason → parse text ≡ None)
    → HasPlace error text → a ≡ says BadDocument (no_json_text error) → AnswersText r text a
answers_no_json r text (json_errors.Invalid line column reason) a more invalid place told =
    no_json line column reason (invalid line column reason refl) place told
answers_no_json r text json_errors.OutOfMemory a more invalid place told = absurd (more refl)
