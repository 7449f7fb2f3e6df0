-- The path of a macro, a token at a time.
use Rattle.std.proofs.Common.{◌≡◌, ℕ, zero, suc, ◌+◌, ◌<◌, ◌≤◌, true, false, cond, List, [], ◌∷◌, length, get_or, drop, Some, None, refl, ap, sym, ◌∙◌, arith}
use Rattle.facet_solver_types.specs.declared.grammar.starts.Path.{Path}
use Rattle.facet_solver_types.specs.declared.token.Token as declared
use Rattle.facet_solver_types.specs.Starts.{is_broken, is_called, path_from, path_step, then_path}
use Rattle.facet_solver_types.specs.Tokens.{tokens_view}
use Rattle.facet_solver_types.proofs.Turns.{here}

module _ (path : Path) (count : ℕ) (ts : List declared.Token) (at : ℕ) (d : declared.Token) (within : at < length ts) (next : Path) (next_is : next ≡ path_step path (get_or ts at d).kind (get_or ts at d).text.now) where
  turn : path_from path count (tokens_view (drop at ts)) ≡ then_path next count (λ path. path_from path (count + 1) (tokens_view (drop (at + 1) ts)))
  unfolding path_from
  turn =
      ap (path_from path count) (here ts at d within)
      ∙ ap (λ p. then_path p count (λ path. path_from path (count + 1) (tokens_view (drop (at + 1) ts)))) (sym next_is)

  pub path_called : is_called next ≡ true → path_from path count (tokens_view (drop at ts)) ≡ Some (count + 1)
  path_called called = turn ∙ ap (λ b. cond b (Some (count + 1)) (cond (is_broken next) None (path_from next (count + 1) (tokens_view (drop (at + 1) ts))))) called

  goes : is_called next ≡ false → path_from path count (tokens_view (drop at ts)) ≡ cond (is_broken next) None (path_from next (count + 1) (tokens_view (drop (at + 1) ts)))
  goes called = turn ∙ ap (λ b. cond b (Some (count + 1)) (cond (is_broken next) None (path_from next (count + 1) (tokens_view (drop (at + 1) ts))))) called

  pub path_broken : is_called next ≡ false → is_broken next ≡ true → path_from path count (tokens_view (drop at ts)) ≡ None
  path_broken called broken = goes called ∙ ap (λ b. cond b None (path_from next (count + 1) (tokens_view (drop (at + 1) ts)))) broken

  pub path_goes : is_called next ≡ false → is_broken next ≡ false → path_from path count (tokens_view (drop at ts)) ≡ path_from next (count + 1) (tokens_view (drop (at + 1) ts))
  path_goes called broken = goes called ∙ ap (λ b. cond b None (path_from next (count + 1) (tokens_view (drop (at + 1) ts)))) broken

-- where the tokens end
pub path_over : (path : Path) (count : ℕ) (ts : List declared.Token) (at : ℕ) → length ts ≤ at → path_from path count (tokens_view (drop at ts)) ≡ None
unfolding path_from
path_over path count [] zero within = refl
path_over path count (t ∷ ts) zero within = absurd (omega arith)
path_over path count [] (suc at) within = refl
path_over path count (t ∷ ts) (suc at) within = path_over path count ts at (omega arith)
