use Rattle.std.proofs.Common.{arith, refl, true, false}
use Rattle.facet_solver_reader.proofs.Marks.{mark_read, marked_now, list_marked}
use Rattle.facet_solver_reader.proofs.tables.marks.Marks.mark_number.Goals as goal
use Rattle.facet_solver_reader.proofs.tables.marks.Marks.mark_number.Goals.{else-number-len-via-then-number-len+else-not-index, else-number-len-via-else-number-len}

pub returns-in_ok-push-clause-added : goal.returns-in_ok-push-clause-added
returns-in_ok-push-clause-added c =
    let marks = c.args.self.now.lists.items in
    list_marked c.args.every.now _ _ c.args.number c.requires
    (mark_read marks c.args.number c.args.number c.index.result.now false c.index.ensures c.if-not-index.true refl (omega arith))
    refl refl c.in_ok-push.ensures.items

pub returns-in_ok-push-clause-marked : goal.returns-in_ok-push-clause-marked
returns-in_ok-push-clause-marked c = λ within. marked_now c.args.self.now.lists.items c.args.number (omega arith)

pub returns-else-number-len-clause-marked : goal.returns-else-number-len-clause-marked
returns-else-number-len-clause-marked c =
    elim c.else-number-len.branch [
      | else-number-len-via-then-number-len+else-not-index w ↦ λ within.
          mark_read c.args.self.now.lists.items c.args.number c.args.number w.index.result.now true w.index.ensures w.if-not-index.false refl within
      | else-number-len-via-else-number-len w ↦ λ h. absurd (omega arith)
    ]
