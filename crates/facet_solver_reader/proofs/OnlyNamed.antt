-- The variant that alone has a name, among the first ones of a list.
use Rattle.std.proofs.Common.{◌≡◌, ◌∙◌, ℕ, ◌<◌, ◌≤◌, ◌+◌, List, length, slice_get, Some, None, Option}
use Rattle.std.proofs.Common.{sym, ap, arith, ⊎_elim}
use Rattle.std.proofs.lemmas.Option.{slice_get_within}
use Rattle.std.specs.Prelude.{IfSome, ◌⊎◌}
use Rattle.facet_solver_shape.specs.Names.{Name}
use Rattle.facet_solver_reader.specs.Rules.{NamedVariant}
use Rattle.facet_solver_reader.specs.ToldAt.{IsOnlyNamed}

-- no variant before an index has the name; or one has it, and no other does
abbrev pub IsFoundAmong : List NamedVariant → Name → Option ℕ → ℕ → Type 0
IsFoundAmong vs x None n =
    (j : ℕ) (v : NamedVariant) → j < n → slice_get vs j ≡ Some v → v.name ≡ x → ⊥
IsFoundAmong vs x (Some k) n =
    (v : NamedVariant) × (slice_get vs k ≡ Some v) × (v.name ≡ x)
    × ((j : ℕ) (w : NamedVariant) → j < n → slice_get vs j ≡ Some w → w.name ≡ x → j ≡ k)

-- an index before the next one is before the last, or is that
below_or_last : (j n : ℕ) → j < n + 1 → (j < n) ⊎ (j ≡ n)
below_or_last j n h = grind arith

module _ (vs : List NamedVariant) (x : Name) (n : ℕ) (v : NamedVariant)
    (there : slice_get vs n ≡ Some v) where
  -- a variant of another name changes nothing
  pub other_passed : (found : Option ℕ) → (v.name ≡ x → ⊥) → IsFoundAmong vs x found n
      → IsFoundAmong vs x found (n + 1)
  other_passed None other h = λ j w below at named.
      ⊎_elim (λ (b : j < n). h j w b at named)
      (λ (b : j ≡ n).
      let both : Some w ≡ Some v = sym at ∙ ap (slice_get vs) b ∙ there in
      let same : w ≡ v = cc in
      other (ap (λ (u : NamedVariant). u.name) (sym same) ∙ named))
      (below_or_last j n below)
  other_passed (Some k) other h = (
    h.0,
    h.1,
    h.2,
    λ j w below at named.
        ⊎_elim (λ (b : j < n). h.3 j w b at named)
        (λ (b : j ≡ n).
        let both : Some w ≡ Some v = sym at ∙ ap (slice_get vs) b ∙ there in
        let same : w ≡ v = cc in
        absurd (other (ap (λ (u : NamedVariant). u.name) (sym same) ∙ named)))
        (below_or_last j n below),
  )

  -- the first of the name is found
  pub first_found : v.name ≡ x → IsFoundAmong vs x None n → IsFoundAmong vs x (Some n) (n + 1)
  first_found is h = (
    v,
    there,
    is,
    λ j w below at named.
        ⊎_elim (λ (b : j < n). absurd (h j w b at named)) (λ (b : j ≡ n). b)
        (below_or_last j n below),
  )

-- up to the end it is the only one
pub only_found : (vs : List NamedVariant) (x : Name) (found : Option ℕ) (n : ℕ)
    → length vs ≤ n → IsFoundAmong vs x found n → IfSome found (IsOnlyNamed vs x)
only_found vs x None n past h = tt
only_found vs x (Some k) n past h =
    record {
      variant = h.0;
      is_at = h.1;
      named = h.2;
      alone = λ j w at named.
          let within = slice_get_within vs j w at in h.3 j w (omega (arith, past, within)) at named;
    }
