-- The words before an item, a token at a time.
use Rattle.std.proofs.Common.{◌≡◌, ℕ, zero, suc, ◌+◌, ◌<◌, ◌≤◌, true, false, cond, List, [], ◌∷◌, length, get_or, drop, refl, ap, ◌∙◌, arith}
use Rattle.facet_solver_types.specs.declared.token.Token as declared
use Rattle.facet_solver_types.specs.Starts.{is_qualifier, qualifiers_len}
use Rattle.facet_solver_types.specs.Tokens.{tokens_view}
use Rattle.facet_solver_types.proofs.Turns.{here}

module _ (ts : List declared.Token) (at : ℕ) (d : declared.Token) (within : at < length ts) where
  -- they end
  pub qualifiers_end : is_qualifier (get_or ts at d).kind (get_or ts at d).text.now ≡ false → qualifiers_len (tokens_view (drop at ts)) ≡ 0
  unfolding qualifiers_len
  qualifiers_end e = ap qualifiers_len (here ts at d within) ∙ ap (λ b. cond b (suc (qualifiers_len (tokens_view (drop (at + 1) ts)))) 0) e

  -- they go on
  pub qualifiers_go : is_qualifier (get_or ts at d).kind (get_or ts at d).text.now ≡ true → qualifiers_len (tokens_view (drop at ts)) ≡ suc (qualifiers_len (tokens_view (drop (at + 1) ts)))
  unfolding qualifiers_len
  qualifiers_go e = ap qualifiers_len (here ts at d within) ∙ ap (λ b. cond b (suc (qualifiers_len (tokens_view (drop (at + 1) ts)))) 0) e

-- and they end with the tokens
pub qualifiers_over : (ts : List declared.Token) (at : ℕ) → length ts ≤ at → qualifiers_len (tokens_view (drop at ts)) ≡ 0
unfolding qualifiers_len
qualifiers_over [] zero within = refl
qualifiers_over (t ∷ ts) zero within = absurd (omega arith)
qualifiers_over [] (suc at) within = refl
qualifiers_over (t ∷ ts) (suc at) within = qualifiers_over ts at (omega arith)
