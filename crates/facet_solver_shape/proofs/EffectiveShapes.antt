-- Effective shapes of a list in which `inner` and `proxy` refer to earlier ones.
use Rattle.std.proofs.Common.{◌⊎◌, inl, inr, ◌≡◌, ℕ, zero, suc, ◌<◌, ◌≤◌, List, Option, Some, None, sym, refl, ap, ◌∙◌, slice_get, length, arith}
use Rattle.std.specs.Option.{IfSome, option_or}
use Rattle.std.proofs.lemmas.Option.{slice_get_past}
use Rattle.facet_solver_shape.specs.declared.shape.Shape.{Shape}
use Rattle.facet_solver_shape.specs.Catalogues.{NamesEarlier}
use Rattle.facet_solver_shape.specs.EffectiveShapes.{effective, effective_within, go_on, next_inside}

module _ (cat : List Shape) (checked : NamesEarlier cat) where
  next_inside-below : (id : ℕ) (o : Option Shape) → slice_get cat id ≡ o → IfSome (next_inside o) (λ p. p < id)
  next_inside-below id None e = tt
  next_inside-below id (Some s) e = both s.inner s.proxy (checked id s e).inner (checked id s e).proxy
    where
      both : (a b : Option ℕ) → IfSome a (λ p. p < id) → IfSome b (λ p. p < id) → IfSome (option_or a b) (λ p. p < id)
      both None b h k = k
      both (Some a) b h k = h

  effective_within-le : (n : ℕ) (id : ℕ) → effective_within n cat id ≤ id
  effective_within-le zero id = omega arith
  effective_within-le (suc n) id = go (next_inside (slice_get cat id)) (next_inside-below id (slice_get cat id) refl) (λ next. effective_within-le n next)
    where
      go : (o : Option ℕ) → IfSome o (λ p. p < id) → ((next : ℕ) → effective_within n cat next ≤ next) → go_on (effective_within n cat) id o ≤ id
      go None h below = omega arith
      go (Some next) h below = omega (arith, below next)

  -- the effective shape stands no later than the shape
  pub effective-le : (id : ℕ) → effective cat id ≤ id
  effective-le id = effective_within-le (length cat) id

  next-below : (id : ℕ) → IfSome (next_inside (slice_get cat id)) (λ p. p < id)
  next-below id = next_inside-below id (slice_get cat id) refl

  same_effective : (n m : ℕ) (id : ℕ) → id ≤ n → id ≤ m → effective_within n cat id ≡ effective_within m cat id
  same_effective zero zero id p q = refl
  same_effective zero (suc m) id p q = go (next_inside (slice_get cat id)) (next-below id)
    where
      go : (o : Option ℕ) → IfSome o (λ p. p < id) → id ≡ go_on (effective_within m cat) id o
      go None b = refl
      go (Some next) b = absurd (omega arith)
  same_effective (suc n) zero id p q = go (next_inside (slice_get cat id)) (next-below id)
    where
      go : (o : Option ℕ) → IfSome o (λ p. p < id) → go_on (effective_within n cat) id o ≡ id
      go None b = refl
      go (Some next) b = absurd (omega arith)
  same_effective (suc n) (suc m) id p q = go (next_inside (slice_get cat id)) (next-below id) (λ next b. same_effective n m next (omega arith) (omega arith))
    where
      go : (o : Option ℕ) → IfSome o (λ p. p < id) → ((next : ℕ) → next < id → effective_within n cat next ≡ effective_within m cat next) → go_on (effective_within n cat) id o ≡ go_on (effective_within m cat) id o
      go None b x = refl
      go (Some next) b x = x next b

  -- it is that of what is inside
  pub effective-step : (id : ℕ) → effective cat id ≡ go_on (effective cat) id (next_inside (slice_get cat id))
  effective-step id = elim (le_or_lt (length cat) id) [ inl past ↦ outside past | inr inside ↦ within inside ]
    where
      le_or_lt : (m n : ℕ) → (m ≤ n) ⊎ (n < m)
      le_or_lt m n = grind arith

      none : (n : ℕ) → slice_get cat id ≡ None → effective_within n cat id ≡ id
      none zero e = refl
      none (suc n) e = ap (λ (o : Option Shape). go_on (effective_within n cat) id (next_inside o)) e

      outside : length cat ≤ id → effective cat id ≡ go_on (effective cat) id (next_inside (slice_get cat id))
      outside h = none (length cat) (slice_get_past cat id h) ∙ sym (ap (λ (o : Option Shape). go_on (effective cat) id (next_inside o)) (slice_get_past cat id h))

      within : id < length cat → effective cat id ≡ go_on (effective cat) id (next_inside (slice_get cat id))
      within h = same_effective (length cat) (suc (length cat)) id (omega arith) (omega arith)
