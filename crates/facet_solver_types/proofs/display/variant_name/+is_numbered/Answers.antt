use Rattle.std.proofs.Common.{◌≡◌, arith}
use Rattle.std.proofs.lemmas.Bool.Decides.{nat_tests}
use Rattle.facet_solver_types.proofs.Numbered.{one_mark_more, no_mark}
use Rattle.facet_solver_types.proofs.display.variant_name.+is_numbered.Goals as goal

pub returns-then-last-eq95 : goal.returns-then-last-eq95
returns-then-last-eq95 t c =
    let same = one_mark_more c.args.number c.args.marks c.args.name.now c.in-Some-split_last.front.now
    c.in-Some-split_last.last.now (omega arith) c.in-Some-split_last.ensures.cases.0 c.if-last-eq95.true in (
      λ yes. same.0 (c.is_numbered.ensures.0 yes),
      λ e. c.is_numbered.ensures.1 (same.1 e),
    )

pub returns-else-last-eq95 : goal.returns-else-last-eq95
returns-else-last-eq95 t c = (
  λ yes. let same : c.in-Some-split_last.last.now ≡ 95 = grind (arith, nat_tests) in absurd (c.if-last-eq95.false same),
  λ e.
      absurd (c.if-last-eq95.false
      (no_mark c.args.number c.args.marks c.args.name.now c.in-Some-split_last.front.now
      c.in-Some-split_last.last.now (omega arith) c.in-Some-split_last.ensures.cases.0 e)),
)
