-- How two readings can differ: none differs from itself, and two of one kind differ as that kind
-- can.
use Rattle.std.proofs.Common.{◌≡◌, ◌⊎◌, ◌∙◌, ap, inl, inr, refl, subst, ℕ}
use Rattle.facet_solver_reader.specs.Choices.{Choice, ChoiceAt, Reading, Readings, Taken, a_variant}
use Rattle.facet_solver_reader.specs.Choices.{an_object, each_of}
use Rattle.facet_solver_checker.specs.Differing.{Differ, DifferAt, DifferEach, DifferPart}
use Rattle.facet_solver_checker.specs.Differing.{DifferTaken, Difference, behind_passed}
use Rattle.facet_solver_checker.specs.Differing.{behind_taken}
use Rattle.facet_solver_checker.specs.Differing.{by_alone, by_branches, by_joined, by_variants}
use Rattle.facet_solver_checker.specs.Differing.{first_differ, first_part, first_taken, in_branch}
use Rattle.facet_solver_checker.specs.Differing.{in_member, in_object, in_taken, in_values}
use Rattle.facet_solver_checker.specs.Differing.{in_variant, joined, later_differ, later_part}
use Rattle.facet_solver_checker.specs.Differing.{at_part, behind, here, into_value, into_variant}
use Rattle.facet_solver_checker.specs.Differing.{variant}

mutual
  -- readings that differ are not the same
  pub not_same : {r s : Reading} {d : Difference} → Differ r s d → r ≡ s → ⊥
  not_same (by_variants j k r s ne) e = ne (cc)
  not_same (by_alone c k s) e = absurd (cc)
  not_same (by_joined j r c) e = absurd (cc)
  not_same (in_variant k r s d h) e = not_same h (cc)
  not_same (in_values rs ss k d h) e = not_same_each h (cc)
  not_same (in_object c b k d h) e = not_same_at h (cc)

  not_same_each : {rs ss : Readings} {k : ℕ} {d : Difference} → DifferEach rs ss k d → rs ≡ ss → ⊥
  not_same_each (first_differ r s rs ss d h) e = not_same h (cc)
  not_same_each (later_differ r s rs ss k d h) e = not_same_each h (cc)

  not_same_at : {c e : Choice} {k : ℕ} {d : Difference} → DifferAt c e k d → c ≡ e → ⊥
  not_same_at (first_part a b c f d h) e = not_same_part h (cc)
  not_same_at (later_part a b c f k d h) e = not_same_at h (cc)

  not_same_part : {a b : ChoiceAt} {d : Difference} → DifferPart a b d → a ≡ b → ⊥
  not_same_part (by_branches j k c f ne) e = ne (cc)
  not_same_part (in_branch k i c f d h) e = not_same_at h (cc)
  not_same_part (in_member r s d h) e = not_same h (cc)
  not_same_part (in_taken t u k d h) e = not_same_taken h (cc)

  not_same_taken : {t u : Taken} {k : ℕ} {d : Difference} → DifferTaken t u k d → t ≡ u → ⊥
  not_same_taken (first_taken r s t u d h) e = not_same h (cc)
  not_same_taken (behind_taken r s t u k d h) e = not_same_taken h (cc)
  not_same_taken (behind_passed t u k d h) e = not_same_taken h (cc)

-- two readings by variants differ by these, or within one
pub variants_differ : {r s : Reading} {d : Difference} → Differ r s d → (i j : ℕ) (x y : Reading)
    → r ≡ a_variant i x → s ≡ a_variant j y
    → ((i ≡ j → ⊥) × (d ≡ here (variant i) (variant j)))
    ⊎ ((i ≡ j) × ((e : Difference) × Differ x y e × (d ≡ behind (into_variant i) e)))
variants_differ (by_variants j k r s ne) i l x y p q =
    let first : j ≡ i = cc in
    let second : k ≡ l = cc in
    inl (
      λ e. ne (cc),
      ap (λ z. here (variant z) (variant k)) first ∙ ap (λ z. here (variant i) (variant z)) second,
    )
variants_differ (by_alone c k s) i l x y p q = absurd (cc)
variants_differ (by_joined j r c) i l x y p q = absurd (cc)
variants_differ (in_variant k r s d h) i l x y p q =
    let first : r ≡ x = cc in
    let second : s ≡ y = cc in
    let same : k ≡ i = cc in
    inr (
      cc,
      (
        d,
        subst (λ z. Differ z y d) first (subst (λ z. Differ r z d) second h),
        ap (λ z. behind (into_variant z) d) same,
      ),
    )
variants_differ (in_values rs ss k d h) i l x y p q = absurd (cc)
variants_differ (in_object c b k d h) i l x y p q = absurd (cc)

-- one of those that are read together and one by a variant differ by that
pub joined_differ : {r s : Reading} {d : Difference} → Differ r s d → (c : Choice) (j : ℕ)
    (y : Reading) → r ≡ an_object c → s ≡ a_variant j y → d ≡ here joined (variant j)
joined_differ (by_variants j k r s ne) c l y p q = absurd (cc)
joined_differ (by_alone b k s) c l y p q =
    let same : k ≡ l = cc in ap (λ z. here joined (variant z)) same
joined_differ (by_joined j r b) c l y p q = absurd (cc)
joined_differ (in_variant k r s d h) c l y p q = absurd (cc)
joined_differ (in_values rs ss k d h) c l y p q = absurd (cc)
joined_differ (in_object b e k d h) c l y p q = absurd (cc)

pub alone_differ : {r s : Reading} {d : Difference} → Differ r s d → (i : ℕ) (x : Reading)
    (c : Choice) → r ≡ a_variant i x → s ≡ an_object c → d ≡ here (variant i) joined
alone_differ (by_variants j k r s ne) i x c p q = absurd (cc)
alone_differ (by_alone b k s) i x c p q = absurd (cc)
alone_differ (by_joined j r b) i x c p q =
    let same : j ≡ i = cc in ap (λ z. here (variant z) joined) same
alone_differ (in_variant k r s d h) i x c p q = absurd (cc)
alone_differ (in_values rs ss k d h) i x c p q = absurd (cc)
alone_differ (in_object b e k d h) i x c p q = absurd (cc)

-- two readings of several values differ at one of them
pub values_differ : {r s : Reading} {d : Difference} → Differ r s d → (x y : Readings)
    → r ≡ each_of x → s ≡ each_of y
    → (k : ℕ) × ((e : Difference) × DifferEach x y k e × (d ≡ behind (into_value k) e))
values_differ (by_variants j k r s ne) x y p q = absurd (cc)
values_differ (by_alone b k s) x y p q = absurd (cc)
values_differ (by_joined j r b) x y p q = absurd (cc)
values_differ (in_variant k r s d h) x y p q = absurd (cc)
values_differ (in_values rs ss k d h) x y p q =
    let first : rs ≡ x = cc in
    let second : ss ≡ y = cc in (
      k,
      (d, subst (λ z. DifferEach z y k d) first (subst (λ z. DifferEach rs z k d) second h), refl),
    )
values_differ (in_object b e k d h) x y p q = absurd (cc)

-- two readings of an object differ in their choices
pub objects_differ : {r s : Reading} {d : Difference} → Differ r s d → (x y : Choice)
    → r ≡ an_object x → s ≡ an_object y
    → (k : ℕ) × ((e : Difference) × DifferAt x y k e × (d ≡ behind (at_part k) e))
objects_differ (by_variants j k r s ne) x y p q = absurd (cc)
objects_differ (by_alone b k s) x y p q = absurd (cc)
objects_differ (by_joined j r b) x y p q = absurd (cc)
objects_differ (in_variant k r s d h) x y p q = absurd (cc)
objects_differ (in_values rs ss k d h) x y p q = absurd (cc)
objects_differ (in_object b e k d h) x y p q =
    let first : b ≡ x = cc in
    let second : e ≡ y = cc in (
      k,
      (d, subst (λ z. DifferAt z y k d) first (subst (λ z. DifferAt b z k d) second h), refl),
    )
