use Rattle.std.proofs.Common.{◌≡◌, ◌+◌, ◌-◌, ◌∙◌, inl, inr, arith, subst, true}
use Rattle.std.proofs.lemmas.Bool.{cases_lt}
use Rattle.facet_solver.specs.build.Build.{kind_at}
use Rattle.facet_solver.specs.build.Nested.{entered_view}
use Rattle.facet_solver.specs.build.NestedTable.{IsMarked, KindAsks}
use Rattle.facet_solver.proofs.Marks.{asks_kept, mark_at, not_marked}
use Rattle.facet_solver.proofs.build.nested.marks.close_marks.Goals as goal

pub loop-left-preserved-then-marks-left : goal.loop-left-preserved-then-marks-left
loop-left-preserved-then-marks-left c =
    let entered = entered_view c.args.entered in
    let cat = c.args.shapes.now in
    let old = c.loop-left.marks in
    let new = c.mark_asked.new.marks in
    let left = c.loop-left.left - 1 in
    let before = c.loop-left.invariant in
    let more = c.mark_asked.ensures.more in
    let again : left + 1 ≡ c.loop-left.left = omega (arith, c.loop-left-test.true) in
    let here = mark_at old left true (omega (arith, again, before.0)) c.if-marks-left.true in (
      omega (arith, again, before.0, more.same_length),
      more.same_length ∙ before.1,
      λ id m. more.kept id (before.2 id m),
      λ others among closed. c.mark_asked.ensures.least others (before.3 others among closed) (closed left (before.3 others among closed left here)),
      λ id le m. elim (cases_lt left id) [
        | inl lt ↦ asks_kept entered cat old new more.kept (kind_at cat id) (before.4 id (omega (arith, again, lt)) (more.below id le m))
        | inr ge ↦ subst (λ i. KindAsks (IsMarked new) entered cat (kind_at cat i)) (let same : left ≡ id = omega (arith, le, ge) in same) c.mark_asked.ensures.asked
      ],
    )

pub loop-left-preserved : goal.loop-left-preserved
loop-left-preserved c =
    let left = c.loop-left.left - 1 in
    let before = c.loop-left.invariant in (
      omega (arith, before.0),
      before.1,
      before.2,
      before.3,
      λ id le m. elim (cases_lt left id) [
        | inl lt ↦ before.4 id (omega (arith, lt, c.loop-left-test.true)) m
        | inr ge ↦ absurd (not_marked c.loop-left.marks left id c.if-marks-left.false (omega (arith, le, ge)) m)
      ],
    )
