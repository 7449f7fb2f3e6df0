use Rattle.std.proofs.Common.{arith, refl, ap, subst, sym, true, false}
use Rattle.std.proofs.Math.ListN.{set}
use Rattle.facet_solver_reader.specs.OrderedLists.{IsMarked}
use Rattle.facet_solver_reader.proofs.Marks.{mark_read, marked_now, shape_marked}
use Rattle.facet_solver_reader.proofs.tables.marks.Marks.mark_shape.Goals as goal
use Rattle.facet_solver_reader.proofs.StayMet.{shape_stays}
use Rattle.facet_solver_reader.proofs.tables.marks.Marks.mark_shape.Goals.{else-index-len-via-then-index-len+else-not-index, else-index-len-via-else-index-len}

pub returns-in_ok-push-clause-kept : goal.returns-in_ok-push-clause-kept
returns-in_ok-push-clause-kept c =
    let marks = c.args.self.now.shapes.items in
    shape_marked _ _ c.args.id
    (mark_read marks c.index-index.result c.args.id c.index.result.now false c.index.ensures c.if-not-index.true c.index-index.ensures (omega arith))
    (ap (λ i. set marks i true) c.index-index.ensures) refl c.in_ok-push.ensures.items

pub returns-in_ok-push-clause-marked : goal.returns-in_ok-push-clause-marked
returns-in_ok-push-clause-marked c =
    let marks = c.args.self.now.shapes.items in
    λ _. subst (λ i. IsMarked (set marks i true) c.args.id) (sym c.index-index.ensures)
    (marked_now marks c.args.id (omega arith))

pub returns-else-index-len-clause-marked : goal.returns-else-index-len-clause-marked
returns-else-index-len-clause-marked c =
    elim c.else-index-len.branch [
      | else-index-len-via-then-index-len+else-not-index w ↦ λ within.
          mark_read c.args.self.now.shapes.items c.index-index.result c.args.id w.index.result.now true w.index.ensures w.if-not-index.false c.index-index.ensures within
      | else-index-len-via-else-index-len w ↦ λ h. absurd (omega arith)
    ]

pub returns-in_ok-push-clause-met : goal.returns-in_ok-push-clause-met
returns-in_ok-push-clause-met c =
    λ shapes every.
    shape_stays shapes every _ _ c.index-index.result c.args.id refl c.index-index.ensures refl
