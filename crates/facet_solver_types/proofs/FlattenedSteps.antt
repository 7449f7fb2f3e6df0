-- What a flattened type mentions, by what it leads to.
use Rattle.std.proofs.Common.{◌≡◌, ℕ, zero, suc, ◌-◌, ◌<◌, Result, Ok, Err, refl, ap, sym, ◌∙◌, arith}
use Rattle.facet_solver_types.specs.declared.fault.Fault.{Fault}
use Rattle.facet_solver_types.specs.Flattened.{Lead, by_lead, lead_of, members}
use Rattle.facet_solver_types.specs.Layers.{Layer, layer_at}
use Rattle.facet_solver_types.specs.Mentions.{Mention, mentions}
use Rattle.facet_solver_types.specs.Passages.{Passage}
use Rattle.facet_solver_types.specs.Pieces.{and_then}
use Rattle.facet_solver_types.specs.Scopes.{Scope, too_deep}

-- no level is left
pub no_members : (levels : ℕ) (scope : Scope) (p : Passage) → levels ≡ 0
    → members levels scope p ≡ Err (too_deep scope)
unfolding members
no_members levels scope p none = ap (λ n. members n scope p) none

-- what a type of a layer mentions
abbrev pub members_of : ℕ → Scope → Passage → Layer → Result Mention Fault
members_of levels scope p layer =
    by_lead (members (levels - 1)) scope layer.head (mentions levels scope p)
    (lead_of scope layer)

-- a level is left
some_members : (levels : ℕ) (scope : Scope) (p : Passage) → 0 < levels
    → members levels scope p ≡ and_then (layer_at scope p) (members_of levels scope p)
unfolding members
some_members zero scope p some = absurd (omega arith)
some_members (suc n) scope p some =
    let same : suc n - 1 ≡ n = omega arith in
    ap (λ k. and_then (layer_at scope p) (λ (layer : Layer).
    by_lead (members k) scope layer.head (mentions (suc n) scope p) (lead_of scope layer)))
    (sym same)

module _ (levels : ℕ) (scope : Scope) (p : Passage) (some : 0 < levels) where
  -- a layer that is none
  pub layer_fault : (fault : Fault) → layer_at scope p ≡ Err fault
      → members levels scope p ≡ Err fault
  layer_fault fault e =
      some_members levels scope p some ∙ ap (λ r. and_then r (members_of levels scope p)) e

  -- a layer that leads so
  pub led : (layer : Layer) (lead : Lead) → layer_at scope p ≡ Ok layer
      → lead ≡ lead_of scope layer
      → members levels scope p
      ≡ by_lead (members (levels - 1)) scope layer.head (mentions levels scope p) lead
  led layer lead e l =
      some_members levels scope p some ∙ ap (λ r. and_then r (members_of levels scope p)) e
      ∙ ap (by_lead (members (levels - 1)) scope layer.head (mentions levels scope p)) (sym l)
