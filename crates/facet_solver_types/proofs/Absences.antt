-- Whether an option takes an absent member, a type at a time.
use Rattle.std.proofs.Common.{◌≡◌, ◌≢◌, ℕ, zero, suc, ◌-◌, true, false, List, ap, refl, arith}
use Rattle.facet_solver_types.specs.declared.catalogue.absences.Absence.{Absence}
use Rattle.facet_solver_types.specs.declared.catalogue.absences.Absence.TheVariants.{Taken, Passed, Refused}
use Rattle.facet_solver_types.specs.Absences.{absence_at, is_taken}

module _ (absences : List Absence) where
  -- an option takes it
  pub taken_there : (times : ℕ) → is_taken absences times Taken ≡ true
  unfolding is_taken
  taken_there zero = refl
  taken_there (suc times) = refl

  -- a type that refuses it
  pub refused_there : (times : ℕ) → is_taken absences times Refused ≡ false
  unfolding is_taken
  refused_there zero = refl
  refused_there (suc times) = refl

  -- a type that passes it on once too often
  pub passed_over : (times place : ℕ) → times ≡ 0 → is_taken absences times (Passed place) ≡ false
  unfolding is_taken
  passed_over times place e = ap (λ n. is_taken absences n (Passed place)) e

  -- a type that passes it on
  pub passed_on : (times place : ℕ) → times ≢ 0
      → is_taken absences times (Passed place)
      ≡ is_taken absences (times - 1) (absence_at absences place)
  unfolding is_taken
  passed_on zero place some = absurd (some refl)
  passed_on (suc times) place some =
      let less : times ≡ suc times - 1 = omega arith in
      ap (λ n. is_taken absences n (absence_at absences place)) less
