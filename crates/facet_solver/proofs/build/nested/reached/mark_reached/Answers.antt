use Rattle.std.proofs.Common.{slice_get, true}
use Rattle.std.specs.Prelude.{⊤}
use Rattle.facet_solver.specs.build.Build.{build_of, kind_at}
use Rattle.facet_solver.specs.build.NestedTable.{IsMarked}
use Rattle.facet_solver.specs.build.Reached.{reach}
use Rattle.facet_solver.proofs.Reached.{kind_kept, shape_kept}
use Rattle.facet_solver.proofs.build.nested.reached.mark_reached.Goals as goal

-- later marks keep what the root and the walked shapes lead to
pub returns-clause-asked : goal.returns-clause-asked
returns-clause-asked c =
    let cat = c.args.build.shapes.now in
    let a = reach c.mark_root.new.walked c.mark_root.new.structs in
    let b = reach c.mark_walked.new.walked c.mark_walked.new.structs in
    let d = reach c.mark_walked.new.walked c.close_marks.new.marks in
    let more = c.mark_walked.ensures.more in
    record {
      reached = kind_kept b d (λ id m. m) c.close_marks.ensures.kept cat ⊤ ⊤ (λ x. x) true (kind_at cat c.args.root)
          (kind_kept a b more.walked.kept more.structs.kept cat ⊤ ⊤ (λ x. x) true (kind_at cat c.args.root) c.mark_root.ensures.reached);
      walked = λ id m.
          shape_kept b d (λ id m. m) c.close_marks.ensures.kept
          (IsMarked c.mark_walked.new.apart id) (IsMarked c.mark_walked.new.apart id) (λ x. x) (build_of c.args.build) (slice_get cat id)
          (c.mark_walked.ensures.closed id m);
      structs = c.close_marks.ensures.closed;
    }

-- and no mark is made that is not asked for
pub returns-clause-least : goal.returns-clause-least
returns-clause-least c = λ others among holds.
    let root = c.mark_root.ensures.least others.reach among.reach holds.reached in
    let walked = c.mark_walked.ensures.least others (record { reach = root; apart = among.apart }) holds.walked in
    record {
      reach = record { walked = walked.reach.walked; structs = c.close_marks.ensures.least others.reach.structs walked.reach.structs holds.structs };
      apart = walked.apart;
    }
