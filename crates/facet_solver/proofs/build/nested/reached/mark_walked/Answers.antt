use Rattle.std.proofs.Common.{◌≡◌, ◌≤◌, ◌+◌, ◌-◌, ◌∙◌, inl, inr, arith, length, true}
use Rattle.std.proofs.lemmas.Bool.{cases_lt}
use Rattle.facet_solver.specs.build.Build.{build_of}
use Rattle.facet_solver.specs.build.Reached.{reach}
use Rattle.facet_solver.proofs.Marks.{mark_at, not_marked}
use Rattle.facet_solver.proofs.Reached.{one_less, reached-mono, reached-trans}
use Rattle.facet_solver.proofs.build.nested.reached.mark_walked.Goals as goal

pub loop-left-preserved-then-walked-left : goal.loop-left-preserved-then-walked-left
loop-left-preserved-then-walked-left c =
    let a = reach c.loop-left.walked c.loop-left.structs in
    let b = reach c.mark_shape.new.walked c.mark_shape.new.structs in
    let left = c.loop-left.left - 1 in
    let again : left + 1 ≡ c.loop-left.left = omega (arith, c.loop-left-test.true) in
    let within : left ≤ length c.args.walked.now = omega (arith, c.loop-left.invariant.0) in
    let same : length c.loop-left.walked ≡ length c.args.walked.now = c.loop-left.invariant.1.walked.same_length in
    let here = mark_at c.loop-left.walked left true (omega (arith, again, same, c.loop-left.invariant.0)) c.if-walked-left.true in (
      within,
      reached-trans (length c.args.walked.now) (reach c.args.walked.now c.args.structs.now) a b c.loop-left.invariant.1 (reached-mono left (length c.args.walked.now) a b within c.mark_shape.ensures.more),
      c.mark_shape.ensures.apart.same_length ∙ c.loop-left.invariant.2,
      one_less (build_of c.args.build) a b c.loop-left.apart c.mark_shape.new.apart left c.mark_shape.ensures.more c.mark_shape.ensures.apart c.mark_shape.ensures.reached
          (λ id le m. c.loop-left.invariant.3 id (omega (arith, again, le)) m),
      λ others among reached. let before = c.loop-left.invariant.4 others among reached in
          c.mark_shape.ensures.least others before (reached left (before.reach.walked left here)),
    )

pub loop-left-preserved : goal.loop-left-preserved
loop-left-preserved c =
    let left = c.loop-left.left - 1 in (
      omega (arith, c.loop-left.invariant.0),
      c.loop-left.invariant.1,
      c.loop-left.invariant.2,
      λ id le m. elim (cases_lt left id) [
        | inl lt ↦ c.loop-left.invariant.3 id (omega (arith, lt, c.loop-left-test.true)) m
        | inr ge ↦ absurd (not_marked c.loop-left.walked left id c.if-walked-left.false (omega (arith, le, ge)) m)
      ],
      c.loop-left.invariant.4,
    )
