use Rattle.facet_solver_reader.specs.Blaming.{IsNext}
use Rattle.facet_solver_reader.specs.declared.count.Count.TheVariants.{Several as TwoCount}
use Rattle.facet_solver_reader.proofs.Blaming.{either_found}
use Rattle.facet_solver_reader.proofs.why.several.first_several.Goals as goal
use Rattle.facet_solver_reader.proofs.why.several.first_several.Goals.{then-chosen-position+in_ok-next, else-chosen-position}

pub loop-position-preserved : goal.loop-position-preserved
loop-position-preserved c =
    elim c.if-chosen-position.branch [
      | then-chosen-position+in_ok-next w ↦
          record {
            sound = rw w.memo-is w.several_at.ensures.sound;
            found = λ v.
                rw w.first-is
                (either_found (IsNext c.args.tables.now c.args.nodes.now TwoCount v)
                c.loop-position.first w.in_ok-next.next w.earlier-first.result
                w.earlier-first.ensures (c.loop-position.invariant.found v)
                (w.in_ok-next.ensures.next v));
          }
      | else-chosen-position w ↦
          record {
            sound = rw w.memo-is c.loop-position.invariant.sound;
            found = λ v. rw w.first-is (c.loop-position.invariant.found v);
          }
    ]
