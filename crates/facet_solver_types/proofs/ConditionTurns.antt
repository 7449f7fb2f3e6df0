-- The first `cfg` of attributes, and tokens of the same texts, a token at a time.
use Rattle.std.proofs.Common.{◌≡◌, ℕ, zero, suc, ◌+◌, ◌-◌, ◌<◌, ◌≤◌, ◌&&◌, ◌==◌, Bool, true, false, cond, List, [], ◌∷◌, length, get_or, drop, take, refl, ap, sym, ◌∙◌, arith}
use Rattle.std.proofs.lemmas.List.{drop_all}
use Rattle.facet_solver_types.specs.declared.token.Token as declared
use Rattle.facet_solver_types.specs.Conditions.{condition, same_texts, sees_condition, sees_text}
use Rattle.facet_solver_types.specs.Runs.{group_len}
use Rattle.facet_solver_types.specs.Tokens.{tokens_view}
use Rattle.facet_solver_types.proofs.Turns.{here}
use Rattle.facet_solver_types.proofs.Views.{rest_view, view_len}

module _ (ts : List declared.Token) (at : ℕ) (d : declared.Token) (within : at < length ts) where
  -- what stands behind the token
  abbrev behind : List declared.Token
  behind = drop (at + 1) ts

  turn : condition (tokens_view (drop at ts))
      ≡ cond (sees_condition (tokens_view (drop at ts)))
      (take (group_len (tokens_view behind)) (tokens_view behind)) (condition (tokens_view behind))
  turn =
      ap condition (here ts at d within)
      ∙ ap (λ l. cond (sees_condition l) (take (group_len (tokens_view behind)) (tokens_view behind)) (condition (tokens_view behind)))
      (sym (here ts at d within))

  -- it stands here
  condition_at : sees_condition (tokens_view (drop at ts)) ≡ true
      → condition (tokens_view (drop at ts)) ≡ take (group_len (tokens_view behind)) (tokens_view behind)
  condition_at e =
      turn ∙ ap (λ b. cond b (take (group_len (tokens_view behind)) (tokens_view behind)) (condition (tokens_view behind))) e

  -- it stands behind
  condition_past : sees_condition (tokens_view (drop at ts)) ≡ false
      → condition (tokens_view (drop at ts)) ≡ condition (tokens_view behind)
  condition_past e =
      turn ∙ ap (λ b. cond b (take (group_len (tokens_view behind)) (tokens_view behind)) (condition (tokens_view behind))) e

-- what stands behind the token at a place
pub behind_view : (ts : List declared.Token) (at : ℕ) → at < length ts
    → drop 1 (tokens_view (drop at ts)) ≡ tokens_view (drop (at + 1) ts)
behind_view [] at within = absurd (omega arith)
behind_view (t ∷ ts) at within = ap (drop 1) (here (t ∷ ts) at t within)

-- a `cfg` stands at a place
pub condition_here : (ts : List declared.Token) (at : ℕ) → at < length ts
    → sees_condition (tokens_view (drop at ts)) ≡ true
    → condition (tokens_view (drop at ts))
    ≡ take (group_len (tokens_view (drop (at + 1) ts))) (tokens_view (drop (at + 1) ts))
condition_here [] at within e = absurd (omega arith)
condition_here (t ∷ ts) at within e = condition_at (t ∷ ts) at t within e

-- none does
pub condition_goes : (ts : List declared.Token) (at : ℕ) → at < length ts
    → sees_condition (tokens_view (drop at ts)) ≡ false
    → condition (tokens_view (drop at ts)) ≡ condition (tokens_view (drop (at + 1) ts))
condition_goes [] at within e = absurd (omega arith)
condition_goes (t ∷ ts) at within e = condition_past (t ∷ ts) at t within e

-- none
pub condition_over : (ts : List declared.Token) (at : ℕ) → length ts ≤ at
    → condition (tokens_view (drop at ts)) ≡ []
condition_over ts at over = ap (λ l. condition (tokens_view l)) (drop_all at ts over)

module _ (ones left : List declared.Token) (at : ℕ) (d : declared.Token) (within : at < length ones) where
  first : same_texts (tokens_view (drop at ones)) (tokens_view left)
      ≡ (sees_text (get_or ones at d).text.now (tokens_view left)
      && same_texts (tokens_view (drop (at + 1) ones)) (drop 1 (tokens_view left)))
  first = ap (λ l. same_texts l (tokens_view left)) (here ones at d within)

  -- they go on
  pub texts_go : sees_text (get_or ones at d).text.now (tokens_view left) ≡ true
      → same_texts (tokens_view (drop at ones)) (tokens_view left)
      ≡ same_texts (tokens_view (drop (at + 1) ones)) (tokens_view (take (length left - 1) (drop 1 left)))
  texts_go e =
      first
      ∙ ap (λ b. b && same_texts (tokens_view (drop (at + 1) ones)) (drop 1 (tokens_view left))) e
      ∙ ap (same_texts (tokens_view (drop (at + 1) ones))) (sym (rest_view left 1))

  -- they differ
  pub texts_differ : sees_text (get_or ones at d).text.now (tokens_view left) ≡ false
      → same_texts (tokens_view (drop at ones)) (tokens_view left) ≡ false
  texts_differ e =
      first
      ∙ ap (λ b. b && same_texts (tokens_view (drop (at + 1) ones)) (drop 1 (tokens_view left))) e

-- they end
pub texts_over : (ones left : List declared.Token) (at : ℕ) → length ones ≤ at
    → same_texts (tokens_view (drop at ones)) (tokens_view left) ≡ (length left == 0)
texts_over ones left at over =
    ap (λ l. same_texts (tokens_view l) (tokens_view left)) (drop_all at ones over)
    ∙ ap (λ n. n == 0) (view_len left)
