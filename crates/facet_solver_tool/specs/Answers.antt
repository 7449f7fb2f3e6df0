-- What is answered to a question.
use Rattle.std.specs.Prelude.{◌≡◌, ℕ, List, Ok, IsUtf8}
use Rattle.facet_solver_types.specs.declared.error.TypesError.{TypesError}
use Rattle.facet_solver_types.specs.LocatedTexts.{located_text}
use Rattle.facet_solver_types.specs.ParsedTexts.{IsExplained, types}
use Rattle.facet_solver_types.specs.Places.{without_mark}
use Rattle.facet_solver_types.specs.TypesViews.{Types}
use Rattle.facet_solver_tool.specs.declared.status.Status.TheVariants.{BadTypes}
use Rattle.facet_solver_tool.specs.Answer.{Answer, says}
use Rattle.facet_solver_tool.specs.Questions.{Question}
use Rattle.facet_solver_tool.specs.RootAnswers.{AnswersRoot, root_at}
use Rattle.facet_solver_tool.specs.Utf8.{no_utf8_text}

-- the answer to a question about types and a document
abbrev pub AnswersTypes : Question → Types → List ℕ → Answer → Type 0
AnswersTypes q ts document a = AnswersRoot (root_at q.types ts ts.root) q.task document a

-- the answer to a question about the types that a text declares
pub data AnswersText (q : Question) (text document : List ℕ) (a : Answer) : Type 0 where
  no_types : (error : TypesError) → IsExplained (without_mark text) q.root error
      → a ≡ says BadTypes (located_text q.types error) → AnswersText q text document a
  has_types : (ts : Types) → types (without_mark text) q.root ≡ Ok ts
      → AnswersTypes q ts document a → AnswersText q text document a

-- the answer to a question about the types that bytes declare, and the bytes of a document
pub data IsAnswer (q : Question) (bytes document : List ℕ) (a : Answer) : Type 0 where
  no_utf8 : ¬ (IsUtf8 bytes) → a ≡ says BadTypes (no_utf8_text q.types bytes)
      → IsAnswer q bytes document a
  is_utf8 : IsUtf8 bytes → AnswersText q bytes document a → IsAnswer q bytes document a
