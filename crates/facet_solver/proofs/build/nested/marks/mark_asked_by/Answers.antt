use Rattle.std.proofs.Common.{◌≡◌, ◌∙◌, inl, inr, arith, subst, true}
use Rattle.std.proofs.lemmas.Bool.{cases_lt}
use Rattle.std.proofs.lemmas.Option.{slice_get_within}
use Rattle.facet_solver.specs.build.Build.{kind_at}
use Rattle.facet_solver.specs.build.Nested.{entered_view}
use Rattle.facet_solver.specs.build.NestedTable.{IsMarked, KindAsks}
use Rattle.facet_solver.proofs.Marks.{asks_kept, mark_at, not_marked}
use Rattle.facet_solver.proofs.build.nested.marks.mark_asked_by.Goals as goal

pub loop-index-preserved-then-not-others-index : goal.loop-index-preserved-then-not-others-index
loop-index-preserved-then-not-others-index c =
    let index = c.loop-index.index in
    let before = c.loop-index.invariant in (
      before.0,
      before.1,
      λ id lt m. elim (cases_lt id index) [
        | inl earlier ↦ before.2 id earlier m
        | inr ge ↦ absurd (not_marked c.args.others.now index id c.if-not-others-index.true (omega (arith, lt, ge)) m)
      ],
      before.3,
    )

pub loop-index-preserved : goal.loop-index-preserved
loop-index-preserved c =
    let entered = entered_view c.args.entered in
    let cat = c.args.shapes.now in
    let old = c.loop-index.marks in
    let new = c.mark_asked.new.marks in
    let index = c.loop-index.index in
    let before = c.loop-index.invariant in
    let more = c.mark_asked.ensures.more in
    let here = mark_at c.args.others.now index true (omega (arith, c.loop-index-test.true)) c.if-not-others-index.false in (
      more.same_length ∙ before.0,
      λ id m. more.kept id (before.1 id m),
      λ id lt m. elim (cases_lt id index) [
        | inl earlier ↦ asks_kept entered cat old new more.kept (kind_at cat id) (before.2 id earlier m)
        | inr ge ↦ subst (λ i. KindAsks (IsMarked new) entered cat (kind_at cat i)) (let same : index ≡ id = omega (arith, lt, ge) in same) c.mark_asked.ensures.asked
      ],
      λ others among asked. c.mark_asked.ensures.least others (before.3 others among asked) (asked index here),
    )

pub returns-clause-asked : goal.returns-clause-asked
returns-clause-asked c = λ id m. c.loop-index.invariant.2 id (let within = slice_get_within c.args.others.now id true m in omega (arith, within, c.loop-index-test.false)) m
