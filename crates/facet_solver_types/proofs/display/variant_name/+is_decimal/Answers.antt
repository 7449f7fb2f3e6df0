use Rattle.std.proofs.Common.{◌≡◌, length, ap, arith}
use Rattle.std.proofs.lemmas.Bool.{false≢true}
use Rattle.std.proofs.lemmas.Bool.Decides.{nat_tests}
use Rattle.std.proofs.lemmas.List.{nil_from_length}
use Rattle.facet_solver_types.proofs.Decimals.{no_digit, other_last, alone, behind_tens}
use Rattle.facet_solver_types.proofs.display.variant_name.+is_decimal.Goals as goal

pub returns-in_default : goal.returns-in_default
returns-in_default t c = (
  λ yes. absurd (false≢true yes),
  λ e. absurd (no_digit c.args.number c.ranges.number.fits c.args.digits.now c.in_default.ensures.cases e),
)

pub returns-then-last-number : goal.returns-then-last-number
returns-then-last-number t c = (
  λ yes. absurd (false≢true yes),
  λ e.
      absurd (other_last c.args.number c.ranges.number.fits c.args.digits.now c.in-Some.front.now
      c.in-Some.last.now c.in-Some.ensures.cases.0 c.if-last-number.true e),
)

pub returns-then-number-lt10 : goal.returns-then-number-lt10
returns-then-number-lt10 t c =
    let same = alone c.args.number c.ranges.number.fits c.args.digits.now c.in-Some.front.now
    c.in-Some.last.now c.in-Some.ensures.cases.0 c.if-last-number.false c.if-number-lt10.true in (
      λ yes. let none : length c.in-Some.front.now ≡ 0 = grind (arith, nat_tests) in same.0 (nil_from_length c.in-Some.front.now none),
      λ e. let none : length c.in-Some.front.now ≡ 0 = ap length (same.1 e) in grind (arith, nat_tests),
    )

pub returns-else-number-lt10 : goal.returns-else-number-lt10
returns-else-number-lt10 t c =
    let same = behind_tens c.args.number c.ranges.number.fits c.args.digits.now c.in-Some.front.now
    c.in-Some.last.now c.in-Some.ensures.cases.0 c.if-last-number.false c.if-number-lt10.false in (
      λ yes. same.0 (c.is_decimal.ensures.0 yes),
      λ e. c.is_decimal.ensures.1 (same.1 e),
    )
