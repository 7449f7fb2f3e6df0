use Rattle.std.proofs.Common.{◌≡◌, ◌+◌, Some, None, refl, sym, ◌∙◌, subst, arith, slice_get}
use Rattle.facet_solver_reader.specs.Known.{rest}
use Rattle.facet_solver_reader.specs.Placing.{IsRestOf}
use Rattle.facet_solver_reader.specs.Views.{part_view, parts_view}
use Rattle.facet_solver_reader.proofs.RestNames.{IsTaker, long_parts, part_read, taken_twice, taker_here, taker_of_all, taker_same}
use Rattle.facet_solver_reader.proofs.tables.names.takes_rest.Goals as goal
use Rattle.facet_solver_reader.proofs.tables.names.takes_rest.Goals.{then-part_takes_rest+in_default, else-part_takes_rest}

pub loop-index-preserved : goal.loop-index-preserved
loop-index-preserved c =
    let o = c.args.ordered.now in
    let ps = parts_view c.args.parts.now in
    let n = c.loop-index.index in
    let at : slice_get ps n ≡ Some (part_view c.index-parts-index.result) = part_read c.args.parts.now n c.index-parts-index.result c.loop-index-test.true c.index-parts-index.is in
    elim c.if-part_takes_rest.branch [
      | then-part_takes_rest+in_default w ↦
          let none : c.loop-index.taker ≡ None = w.in_default.is in
          subst (IsTaker o rest ps (n + 1)) (sym w.taker-is)
          (taker_here o rest ps n (part_view c.index-parts-index.result) at (subst (IsTaker o rest ps n) none c.loop-index.invariant) (sym c.part_takes_rest.ensures ∙ w.if-part_takes_rest.true))
      | else-part_takes_rest w ↦
          subst (IsTaker o rest ps (n + 1)) (sym w.taker-is)
          (taker_same o rest ps n (part_view c.index-parts-index.result) at c.loop-index.taker c.loop-index.invariant (sym c.part_takes_rest.ensures ∙ w.if-part_takes_rest.false))
    ]

pub returns-clause-ok : goal.returns-clause-ok
returns-clause-ok c =
    let ps = parts_view c.args.parts.now in
    subst (IsRestOf c.args.ordered.now ps) (sym c.is_some.ensures)
    (taker_of_all c.args.ordered.now ps c.loop-index.index c.loop-index.taker (omega (arith, long_parts c.args.parts.now, c.loop-index-test.false)) c.loop-index.invariant)

pub returns-in-Some-clause-err : goal.returns-in-Some-clause-err
returns-in-Some-clause-err c =
    let o = c.args.ordered.now in
    let ps = parts_view c.args.parts.now in
    let n = c.loop-index.index in
    let at : slice_get ps n ≡ Some (part_view c.index-parts-index.result) = part_read c.args.parts.now n c.index-parts-index.result c.loop-index-test.true c.index-parts-index.is in (
      refl,
      taken_twice o rest ps n (part_view c.index-parts-index.result) at c.loop-index.taker c.in-Some.first c.loop-index.invariant c.in-Some.is
          (sym c.part_takes_rest.ensures ∙ c.if-part_takes_rest.true),
    )
