-- The counts of readings of one form.
use Rattle.std.proofs.Common.{◌≡◌, refl, ℕ, ◌+◌, ◌<◌, ◌≤◌, ◌⊎◌, inl, inr, ap, subst, ⊎_elim, arith}
use Rattle.std.proofs.lemmas.Bool.{cases_lt}
use Rattle.facet_solver_reader.specs.declared.count.Count.{Count}
use Rattle.facet_solver_reader.specs.declared.count.Count.TheVariants.{None as NoCount, One}
use Rattle.facet_solver_reader.specs.declared.count.Count.TheVariants.{Several}
use Rattle.facet_solver_reader.specs.Counted.{Counted, plus}
use Rattle.facet_solver_reader.specs.Choices.{Reading, a_value, each_of, an_object, a_variant}
use Rattle.facet_solver_reader.specs.Choices.{Readings, Choice}
use Rattle.facet_solver_reader.specs.Values.{OfVariant}
use Rattle.facet_solver_reader.proofs.Counting.{counted_images, counted_plus, counted_same}

-- only a value as it is
pub count_as_value : (W : Reading → Type 0) → W a_value
    → ((rs : Readings) → W (each_of rs) → ⊥) → ((c : Choice) → W (an_object c) → ⊥)
    → ((k : ℕ) (r : Reading) → W (a_variant k r) → ⊥) → Counted W One
count_as_value W has no_each no_object no_variant =
    record { value = a_value; has = has; only = only }
  where
    only : (r : Reading) → W r → r ≡ a_value
    only a_value h = refl
    only (each_of rs) h = absurd (no_each rs h)
    only (an_object c) h = absurd (no_object c h)
    only (a_variant k r) h = absurd (no_variant k r h)

-- a value as it is, if at all
pub count_as_no_value : (W : Reading → Type 0) → (W a_value → ⊥)
    → ((rs : Readings) → W (each_of rs) → ⊥) → ((c : Choice) → W (an_object c) → ⊥)
    → ((k : ℕ) (r : Reading) → W (a_variant k r) → ⊥) → Counted W NoCount
count_as_no_value W no_value no_each no_object no_variant = none
  where
    none : (r : Reading) → W r → ⊥
    none a_value h = no_value h
    none (each_of rs) h = no_each rs h
    none (an_object c) h = no_object c h
    none (a_variant k r) h = no_variant k r h

-- readings of several values
pub count_as_each : (W : Reading → Type 0) (n : Count) → (W a_value → ⊥)
    → ((c : Choice) → W (an_object c) → ⊥) → ((k : ℕ) (r : Reading) → W (a_variant k r) → ⊥)
    → Counted (λ rs. W (each_of rs)) n → Counted W n
count_as_each W n no_value no_object no_variant h =
    counted_images (λ rs. W (each_of rs)) W each_of n
    (record { into = λ rs p. p; out = out; same = λ x y e. cc }) h
  where
    out : (z : Reading) → W z → (rs : Readings) × W (each_of rs) × (z ≡ each_of rs)
    out a_value w = absurd (no_value w)
    out (each_of rs) w = (rs, w, refl)
    out (an_object c) w = absurd (no_object c w)
    out (a_variant k r) w = absurd (no_variant k r w)

-- readings of an object
pub count_as_object : (W : Reading → Type 0) (n : Count) → (W a_value → ⊥)
    → ((rs : Readings) → W (each_of rs) → ⊥) → ((k : ℕ) (r : Reading) → W (a_variant k r) → ⊥)
    → Counted (λ c. W (an_object c)) n → Counted W n
count_as_object W n no_value no_each no_variant h =
    counted_images (λ c. W (an_object c)) W an_object n
    (record { into = λ c p. p; out = out; same = λ x y e. cc }) h
  where
    out : (z : Reading) → W z → (c : Choice) × W (an_object c) × (z ≡ an_object c)
    out a_value w = absurd (no_value w)
    out (each_of rs) w = absurd (no_each rs w)
    out (an_object c) w = (c, w, refl)
    out (a_variant k r) w = absurd (no_variant k r w)

-- readings of one variant alone
pub count_as_variant : (P : ℕ → Reading → Type 0) (k : ℕ) (n : Count)
    → ((j : ℕ) (r : Reading) → P j r → j ≡ k) → Counted (P k) n → Counted (OfVariant P) n
count_as_variant P k n at h =
    counted_images (P k) (OfVariant P) (a_variant k) n
    (record { into = λ r p. p; out = out; same = λ x y e. cc }) h
  where
    out : (z : Reading) → OfVariant P z → (r : Reading) × P k r × (z ≡ a_variant k r)
    out a_value w = absurd w
    out (each_of rs) w = absurd w
    out (an_object c) w = absurd w
    out (a_variant j r) w =
        (r, subst (λ i. P i r) (at j r w) w, ap (λ i. a_variant i r) (at j r w))

-- a reading of a variant before the n-th
abbrev pub OfVariantBelow : (ℕ → Reading → Type 0) → ℕ → Reading → Type 0
OfVariantBelow P n z = OfVariant (λ k r. (k < n) × P k r) z

-- one variant more is the sum
pub count_below_more : (P : ℕ → Reading → Type 0) (n : ℕ) (a b : Count)
    → Counted (OfVariantBelow P n) a → Counted (P n) b
    → Counted (OfVariantBelow P (n + 1)) (plus a b)
count_below_more P n a b h g =
    counted_plus (OfVariantBelow P n) At (OfVariantBelow P (n + 1)) a b
    (record { into_first = into_first; into_second = into_second; out = out; apart = apart }) h
    (count_as_variant (λ k r. (k ≡ n) × P k r) n b (λ j r p. p.0)
    (counted_same (P n) (λ r. (n ≡ n) × P n r) b (λ r p. (refl, p)) (λ r p. p.1) g))
  where
    At : Reading → Type 0
    At z = OfVariant (λ k r. (k ≡ n) × P k r) z

    into_first : (z : Reading) → OfVariantBelow P n z → OfVariantBelow P (n + 1) z
    into_first a_value w = w
    into_first (each_of rs) w = w
    into_first (an_object c) w = w
    into_first (a_variant k r) w = let l = w.0 in (omega arith, w.1)

    into_second : (z : Reading) → At z → OfVariantBelow P (n + 1) z
    into_second a_value w = w
    into_second (each_of rs) w = w
    into_second (an_object c) w = w
    into_second (a_variant k r) w = let l = w.0 in (omega arith, w.1)

    out : (z : Reading) → OfVariantBelow P (n + 1) z → OfVariantBelow P n z ⊎ At z
    out a_value w = absurd w
    out (each_of rs) w = absurd w
    out (an_object c) w = absurd w
    out (a_variant k r) w =
        let l = w.0 in
        let either : (k < n) ⊎ (n ≤ k) = cases_lt k n in
        ⊎_elim (λ (b : k < n). inl (b, w.1)) (λ (b : n ≤ k). inr (omega arith, w.1)) either

    apart : (z : Reading) → OfVariantBelow P n z → At z → ⊥
    apart a_value w e = w
    apart (each_of rs) w e = w
    apart (an_object c) w e = w
    apart (a_variant k r) w e = let l = w.0 in let f = e.0 in omega arith

-- a variant without a reading adds nothing
pub count_below_same : (P : ℕ → Reading → Type 0) (n : ℕ) (a : Count)
    → Counted (OfVariantBelow P n) a → ((r : Reading) → P n r → ⊥)
    → Counted (OfVariantBelow P (n + 1)) a
count_below_same P n a h none =
    subst (λ k. Counted (OfVariantBelow P (n + 1)) k) (none_more a)
    (count_below_more P n a NoCount h none)
  where
    none_more : (m : Count) → plus m NoCount ≡ m
    none_more NoCount = refl
    none_more One = refl
    none_more Several = refl

-- the variants before one beyond which none has a reading are all
pub count_below_all : (P : ℕ → Reading → Type 0) (n : ℕ) (a : Count)
    → ((k : ℕ) (r : Reading) → n ≤ k → P k r → ⊥)
    → Counted (OfVariantBelow P n) a → Counted (OfVariant P) a
count_below_all P n a none_beyond h =
    counted_same (OfVariantBelow P n) (OfVariant P) a into out h
  where
    into : (z : Reading) → OfVariantBelow P n z → OfVariant P z
    into a_value w = w
    into (each_of rs) w = w
    into (an_object c) w = w
    into (a_variant k r) w = w.1

    out : (z : Reading) → OfVariant P z → OfVariantBelow P n z
    out a_value w = w
    out (each_of rs) w = w
    out (an_object c) w = w
    out (a_variant k r) w =
        let either : (k < n) ⊎ (n ≤ k) = cases_lt k n in
        ⊎_elim (λ (b : k < n). (b, w)) (λ (b : n ≤ k). absurd (none_beyond k r b w)) either
