-- Types as they are written, a token or a part at a time.
use Rattle.std.proofs.Common.{◌≡◌, ℕ, zero, suc, ◌+◌, ◌-◌, ◌<◌, ◌≤◌, Bool, true, false, cond, List, [], ◌∷◌, length, drop, take, refl, ap, sym, ◌∙◌, arith, add-one}
use Rattle.std.proofs.lemmas.List.{take_rest}
use Rattle.facet_solver_types.specs.declared.token.Token as declared
use Rattle.facet_solver_types.specs.Tokens.{tokens_view}
use Rattle.facet_solver_types.specs.WrittenTypes.{front_len, goes_on}

-- the front of a path, from a token on
front_cases : (ts : List declared.Token) (at : ℕ) → at < length ts
    → front_len (tokens_view (drop at ts))
    ≡ cond (goes_on (tokens_view (drop at ts))) (suc (front_len (tokens_view (drop (suc at) ts)))) 0
unfolding front_len
front_cases [] at within = absurd (omega arith)
front_cases (t ∷ ts) zero within = refl
front_cases (t ∷ ts) (suc at) within = front_cases ts at (omega arith)

module _ (ts : List declared.Token) (at : ℕ) (within : at < length ts) (b : Bool) (e : b ≡ goes_on (tokens_view (take (length ts - at) (drop at ts)))) where
  seen : b ≡ goes_on (tokens_view (drop at ts))
  seen = e ∙ ap (λ rest. goes_on (tokens_view rest)) (take_rest ts at)

  case : front_len (tokens_view (drop at ts)) ≡ cond b (suc (front_len (tokens_view (drop (suc at) ts)))) 0
  case = front_cases ts at within ∙ ap (λ x. cond x (suc (front_len (tokens_view (drop (suc at) ts)))) 0) (sym seen)

  -- the front ends
  pub front_ends : b ≡ false → front_len (tokens_view (drop at ts)) ≡ 0
  front_ends ended = case ∙ ap (λ x. cond x (suc (front_len (tokens_view (drop (suc at) ts)))) 0) ended

  -- the front goes on
  pub front_goes : b ≡ true → front_len (tokens_view (drop at ts)) ≡ suc (front_len (tokens_view (drop (at + 1) ts)))
  front_goes more = case ∙ ap (λ x. cond x (suc (front_len (tokens_view (drop (suc at) ts)))) 0) more ∙ ap (λ k. suc (front_len (tokens_view (drop k ts)))) (sym (add-one at))

-- the front is over with the tokens
pub front_over : (ts : List declared.Token) (at : ℕ) → length ts ≤ at → front_len (tokens_view (drop at ts)) ≡ 0
unfolding front_len
front_over [] zero within = refl
front_over (t ∷ ts) zero within = absurd (omega arith)
front_over [] (suc at) within = refl
front_over (t ∷ ts) (suc at) within = front_over ts at (omega arith)
