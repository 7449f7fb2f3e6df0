-- Answers to runs.
use Rattle.std.proofs.Common.{◌≡◌, ◌⊎◌, ℕ, List, Option, Some, None, Result, Ok, Err, IfErr, IfOk, IfSome, inl, inr, subst, sym}
use Rattle.std.proofs.lemmas.Result.{IfOk-weaker}
use Rattle.std.specs.declared.alloc.AllocError.{AllocError}
use Rattle.facet_solver_shape.specs.Names.{Name}
use Rattle.facet_solver_tool.specs.declared.answer.Answer as answer
use Rattle.facet_solver_tool.specs.declared.question.Task.{Task}
use Rattle.facet_solver_tool.specs.declared.status.Status.TheVariants.{Misused}
use Rattle.facet_solver_tool.specs.Answer.{Answer, answer_view, refused}
use Rattle.facet_solver_tool.specs.Answers.{IsAnswer}
use Rattle.facet_solver_tool.specs.Misuses.{TellsMisuse}
use Rattle.facet_solver_tool.specs.Questions.{Question}
use Rattle.facet_solver_tool.specs.Requests.{IsMisuse, Misuse, Outcome, ask_lines, requested}
use Rattle.facet_solver_tool.specs.Runs.{AnswersFile, AnswersOutcome, AnswersWords, EndsLines, EndsRun, EndsWords, IsRun, IsGiven, document_of}
use Rattle.facet_solver_tool.specs.Streams.{Ran}

-- what tells a misuse answers words that ask nothing
pub answers_misuse : (outcome : Outcome) (misuse : Option Misuse) (input : Option (List ℕ)) (a : Answer)
    → IsMisuse outcome misuse → TellsMisuse misuse a → AnswersOutcome outcome input a
answers_misuse outcome None input a is told = absurd told
answers_misuse outcome (Some misuse) input a is told = subst (λ o. AnswersOutcome o input a) (sym is) told

-- the answer about what was read beside the types is one to the question
pub answers_file : {B E : Type 0} (q : Question) (types : List ℕ) (input : Option (List ℕ)) (items : B → List ℕ)
    → (read : Result B E) (made : Result answer.Answer AllocError)
    → IfOk read (λ d. IsGiven q.task q.accepted input (items d))
    → IfOk read (λ d. IfOk made (λ a. IsAnswer q types (items d) (answer_view a)))
    → IfErr read (λ e. IfOk made (λ a. a.status ≡ Misused))
    → IfOk made (λ a. AnswersFile q types input (answer_view a))
answers_file q types input items (Ok d) made is answered unread =
    IfOk-weaker made _ _ (λ a said. inr (items d, is, said)) answered
answers_file q types input items (Err e) made is answered unread = IfOk-weaker made _ _ (λ a status. inl status) unread

-- what a file has is given, where one is named
pub given_named : {B E : Type 0} (task : Task) (accepted : Option Name) (path : Name) (input : Option (List ℕ))
    → (items : B → List ℕ) (read : Result B E) → accepted ≡ Some path → IfOk read (λ d. IsGiven task accepted input (items d))
given_named task accepted path input items (Ok d) is = subst (λ o. IsGiven task o input (items d)) (sym is) tt
given_named task accepted path input items (Err e) is = tt

-- the document is given, where none is
pub given_read : {B E : Type 0} (task : Task) (accepted : Option Name) (input : Option (List ℕ))
    → (items : B → List ℕ) (read : Result B E) → accepted ≡ None
    → IfOk read (λ d. IfSome (document_of task input) (λ document. items d ≡ document))
    → IfOk read (λ d. IsGiven task accepted input (items d))
given_read task accepted input items read is found =
    subst (λ o. IfOk read (λ d. IsGiven task o input (items d))) (sym is) found

-- that the file of types cannot be read answers words which ask about each line
unread_words : (words : List Name) (q : Question) (input : Option (List ℕ)) (a : Answer)
    → requested words ≡ Ok (ask_lines q) → (a.status ≡ Misused) ⊎ (a ≡ refused)
    → AnswersWords words input a ⊎ (a ≡ refused)
unread_words words q input a asked (inl status) = inl (subst (λ o. AnswersOutcome o input a) (sym asked) status)
unread_words words q input a asked (inr is) = inr is

-- words that ask about each line are answered so
pub ends_words : (words : List Name) (q : Question) (r : Ran) → requested words ≡ Ok (ask_lines q)
    → EndsLines q r → EndsWords words r
ends_words words q r asked (inl one) = inl (one.0, unread_words words q r.input one.0 asked one.1, one.2)
ends_words words q r asked (inr each) = inr (q, asked, each)

run_of_words : (words : List Name) (input : Option (List ℕ)) (a : Answer)
    → AnswersWords words input a ⊎ (a ≡ refused) → IsRun input a
run_of_words words input a (inl said) = inl (inr (words, said))
run_of_words words input a (inr is) = inr is

-- a run is answered as its words are
pub ends_run : (words : List Name) (r : Ran) → EndsWords words r → EndsRun r
ends_run words r (inl one) = inl (one.0, run_of_words words r.input one.0 one.1, one.2)
ends_run words r (inr each) = inr (words, each)
