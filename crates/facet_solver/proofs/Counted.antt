-- Counts of steps that don't fall.
use Rattle.std.proofs.Common.{◌≡◌, ◌+◌, ap, arith}
use Rattle.facet_solver_shape.specs.Steps.{NoCountFalls, StepCounts}

pub no_fall-refl : (a : StepCounts) → NoCountFalls a a
no_fall-refl a = record { words = omega arith; searches = omega arith; visits = omega arith }

pub no_fall-trans : (a b c : StepCounts) → NoCountFalls a b → NoCountFalls b c → NoCountFalls a c
no_fall-trans a b c f g = record { words = omega arith; searches = omega arith; visits = omega arith }

-- one more search
pub searched : (a b : StepCounts) → b ≡ record a { searches = a.searches + 1 } → NoCountFalls a b
searched a b e =
    let words = ap (λ (s : StepCounts). s.words) e in
    let searches = ap (λ (s : StepCounts). s.searches) e in
    let visits = ap (λ (s : StepCounts). s.visits) e in
    record { words = omega arith; searches = omega arith; visits = omega arith }

-- one more visit
pub visited : (a b : StepCounts) → b ≡ record a { visits = a.visits + 1 } → NoCountFalls a b
visited a b e =
    let words = ap (λ (s : StepCounts). s.words) e in
    let searches = ap (λ (s : StepCounts). s.searches) e in
    let visits = ap (λ (s : StepCounts). s.visits) e in
    record { words = omega arith; searches = omega arith; visits = omega arith }
