-- A run of tokens, a token at a time.
use Rattle.std.proofs.Common.{◌≡◌, ℕ, zero, suc, ◌+◌, ◌<◌, ◌≤◌, true, false, cond, List, [], ◌∷◌, length, get_or, drop, refl, ap, ◌∙◌, arith, add-one, drop-cons}
use Rattle.facet_solver_types.specs.declared.grammar.run.Nest.{Nest}
use Rattle.facet_solver_types.specs.declared.grammar.run.Run.{Run}
use Rattle.facet_solver_types.specs.declared.token.Token as declared
use Rattle.facet_solver_types.specs.Runs.{ends, nest_after, run_from}
use Rattle.facet_solver_types.specs.Tokens.{token_view, tokens_view}

-- the tokens from one on
pub here : (ts : List declared.Token) (at : ℕ) (d : declared.Token) → at < length ts → tokens_view (drop at ts) ≡ token_view (get_or ts at d) ∷ tokens_view (drop (at + 1) ts)
here ts at d within =
    let split : drop at ts ≡ get_or ts at d ∷ drop (at + 1) ts = rw (add-one, drop-cons ts at d) refl in
    ap tokens_view split

module _ (run : Run) (nest : Nest) (ts : List declared.Token) (at : ℕ) (d : declared.Token) (within : at < length ts) where
  -- a run ends
  pub run_ends : ends run nest (get_or ts at d).kind ≡ true → run_from run nest (tokens_view (drop at ts)) ≡ 0
  unfolding run_from
  run_ends e = ap (run_from run nest) (here ts at d within) ∙ ap (λ b. cond b 0 (suc (run_from run (nest_after run nest (get_or ts at d).kind) (tokens_view (drop (at + 1) ts))))) e

  -- a run goes on
  pub run_goes : ends run nest (get_or ts at d).kind ≡ false → run_from run nest (tokens_view (drop at ts)) ≡ suc (run_from run (nest_after run nest (get_or ts at d).kind) (tokens_view (drop (at + 1) ts)))
  unfolding run_from
  run_goes e = ap (run_from run nest) (here ts at d within) ∙ ap (λ b. cond b 0 (suc (run_from run (nest_after run nest (get_or ts at d).kind) (tokens_view (drop (at + 1) ts))))) e

-- and it ends with the tokens
pub run_over : (run : Run) (nest : Nest) (ts : List declared.Token) (at : ℕ) → length ts ≤ at → run_from run nest (tokens_view (drop at ts)) ≡ 0
unfolding run_from
run_over run nest [] zero within = refl
run_over run nest (t ∷ ts) zero within = absurd (omega arith)
run_over run nest [] (suc at) within = refl
run_over run nest (t ∷ ts) (suc at) within = run_over run nest ts at (omega arith)
