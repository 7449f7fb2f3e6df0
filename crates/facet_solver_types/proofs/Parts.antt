-- The tokens of a text, a part at a time.
use Rattle.std.proofs.Common.{◌≡◌, ℕ, zero, suc, ◌+◌, ◌-◌, ◌<◌, ◌≤◌, List, [], ◌∷◌, ◌++◌, length, drop, reverse, Some, None, Ok, Err, refl, ap, sym, ◌∙◌, arith, append_assoc, append-nil}
use Rattle.std.proofs.lemmas.List.{reverse-reverse}
use Rattle.facet_solver_types.specs.declared.fault.Fault.{Fault}
use Rattle.facet_solver_types.specs.declared.fault.Fault.TheVariants.{At}
use Rattle.facet_solver_types.specs.declared.problem.Problem.{Problem}
use Rattle.facet_solver_types.specs.declared.problem.Problem.TheVariants.{ClosesNothing}
use Rattle.facet_solver_types.specs.declared.token.Token as declared
use Rattle.facet_solver_types.specs.declared.tokens.brackets.Opened.{Opened}
use Rattle.facet_solver_types.specs.declared.tokens.part.Part.TheVariants.{Gap, Spelled}
use Rattle.facet_solver_types.specs.declared.tokens.spelling.Spelling.{Spelling}
use Rattle.facet_solver_types.specs.Brackets.{open_after}
use Rattle.facet_solver_types.specs.FirstParts.{first_part}
use Rattle.facet_solver_types.specs.Spellings.{IsIn}
use Rattle.facet_solver_types.specs.Tokens.{Read, Token, after_part, at_end, before, outcome, then_tokens, token_at, token_view, tokens_from, tokens_view, with_token}

pub before_none : (r : Read) → before [] r ≡ r
before_none (Ok later) = refl
before_none (Err fault) = refl

-- one token more was read
pub before_one : (tokens : List Token) (token : Token) (r : Read) → before tokens (with_token token r) ≡ before (tokens ++ token ∷ []) r
before_one tokens token (Ok later) = ap Ok (sym (append_assoc tokens (token ∷ []) later))
before_one tokens token (Err fault) = refl

view-push : (ts : List declared.Token) (t : declared.Token) → tokens_view (ts ++ t ∷ []) ≡ tokens_view ts ++ token_view t ∷ []
view-push [] t = refl
view-push (x ∷ ts) t = ap (λ l. token_view x ∷ l) (view-push ts t)

pub before_push : (ts : List declared.Token) (t : declared.Token) (r : Read) → before (tokens_view ts) (with_token (token_view t) r) ≡ before (tokens_view (ts ++ t ∷ [])) r
before_push ts t r = before_one (tokens_view ts) (token_view t) r ∙ ap (λ l. before l r) (sym (view-push ts t))

-- the bytes of a part are passed over
passed : (outer : List Opened) (offset n : ℕ) (text : List ℕ) → n ≤ length text → tokens_from outer offset n text ≡ tokens_from outer (offset + n) 0 (drop n text)
unfolding tokens_from
passed outer offset zero text inside = ap (λ k. tokens_from outer k 0 text) (omega arith)
passed outer offset (suc n) [] inside = absurd (omega arith)
passed outer offset (suc n) (byte ∷ bytes) inside =
    let same : offset + 1 + n ≡ offset + suc n = omega arith in
    passed outer (offset + 1) n bytes (omega arith) ∙ ap (λ k. tokens_from outer k 0 (drop n bytes)) same

passed_on : (outer : List Opened) (offset len byte : ℕ) (bytes : List ℕ) → 0 < len → len ≤ length (byte ∷ bytes) → tokens_from outer (offset + 1) (len - 1) bytes ≡ tokens_from outer (offset + len) 0 (drop len (byte ∷ bytes))
passed_on outer offset zero byte bytes some inside = absurd (omega arith)
passed_on outer offset (suc n) byte bytes some inside =
    let less : suc n - 1 ≡ n = omega arith in
    let same : offset + 1 + n ≡ offset + suc n = omega arith in
    ap (λ k. tokens_from outer (offset + 1) k bytes) less ∙ passed outer (offset + 1) n bytes (omega arith) ∙ ap (λ k. tokens_from outer k 0 (drop n bytes)) same

module _ (outer : List Opened) (offset : ℕ) where
  -- at a fault
  pub at_fault : (text : List ℕ) (problem : Problem) → 0 < length text → Err problem ≡ first_part text → tokens_from outer offset 0 text ≡ Err (At offset problem)
  unfolding tokens_from
  at_fault [] problem some e = absurd (omega arith)
  at_fault (byte ∷ bytes) problem some e = ap (λ r. after_part outer offset (byte ∷ bytes) r (λ outer len. tokens_from outer (offset + 1) (len - 1) bytes)) (sym e)

  -- at a gap
  pub at_gap : (text : List ℕ) (len : ℕ) → 0 < len → len ≤ length text → Ok (Gap len) ≡ first_part text → tokens_from outer offset 0 text ≡ tokens_from outer (offset + len) 0 (drop len text)
  unfolding tokens_from
  at_gap [] len some inside e = absurd (omega arith)
  at_gap (byte ∷ bytes) len some inside e =
      ap (λ r. after_part outer offset (byte ∷ bytes) r (λ outer len. tokens_from outer (offset + 1) (len - 1) bytes)) (sym e)
      ∙ passed_on outer offset len byte bytes some inside

  -- at a token whose bracket closes nothing
  pub at_close : (text : List ℕ) (spelling : Spelling) → 0 < length text → Ok (Spelled spelling) ≡ first_part text → open_after spelling.kind offset outer ≡ None → tokens_from outer offset 0 text ≡ Err (At offset ClosesNothing)
  unfolding tokens_from
  at_close [] spelling some e closes = absurd (omega arith)
  at_close (byte ∷ bytes) spelling some e closes =
      ap (λ r. after_part outer offset (byte ∷ bytes) r (λ outer len. tokens_from outer (offset + 1) (len - 1) bytes)) (sym e)
      ∙ ap (λ o. then_tokens (token_at offset (byte ∷ bytes) spelling) o (λ outer. tokens_from outer (offset + 1) (spelling.len - 1) bytes)) closes

  -- at a token
  pub at_token : (text : List ℕ) (spelling : Spelling) (inner : List Opened) → IsIn text spelling → Ok (Spelled spelling) ≡ first_part text → open_after spelling.kind offset outer ≡ Some inner
      → tokens_from outer offset 0 text ≡ with_token (token_at offset text spelling) (tokens_from inner (offset + spelling.len) 0 (drop spelling.len text))
  unfolding tokens_from
  at_token [] spelling inner inside e opens = absurd (omega (arith, inside.some, inside.within))
  at_token (byte ∷ bytes) spelling inner inside e opens =
      ap (λ r. after_part outer offset (byte ∷ bytes) r (λ outer len. tokens_from outer (offset + 1) (len - 1) bytes)) (sym e)
      ∙ ap (λ o. then_tokens (token_at offset (byte ∷ bytes) spelling) o (λ outer. tokens_from outer (offset + 1) (spelling.len - 1) bytes)) opens
      ∙ ap (with_token (token_at offset (byte ∷ bytes) spelling)) (passed_on inner offset spelling.len byte bytes inside.some inside.within)

-- ---- at the end of a text

module _ (found : List declared.Token) (opened : List Opened) (offset : ℕ) where
  ended : (rest : List ℕ) → length rest ≡ 0 → tokens_from (reverse opened) offset 0 rest ≡ at_end opened
  unfolding tokens_from
  ended [] none = ap at_end (reverse-reverse opened)
  ended (byte ∷ bytes) none = absurd (omega arith)

  -- with a bracket that is open
  pub outcome_at_end : (rest : List ℕ) (fault : Fault) → length rest ≡ 0 → at_end opened ≡ Err fault → outcome found opened offset rest ≡ Err fault
  outcome_at_end rest fault none at = ap (before (tokens_view found)) (ended rest none ∙ at)

  -- with none
  pub outcome_closed : (rest : List ℕ) → length rest ≡ 0 → at_end opened ≡ Ok [] → outcome found opened offset rest ≡ Ok (tokens_view found)
  outcome_closed rest none at = ap (before (tokens_view found)) (ended rest none ∙ at) ∙ ap Ok (append-nil (tokens_view found))
