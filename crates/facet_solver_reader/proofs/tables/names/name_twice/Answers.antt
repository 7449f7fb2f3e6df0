use Rattle.std.proofs.Common.{◌≡◌, ◌+◌, Some, None, refl, sym, ◌∙◌, subst, arith, slice_get}
use Rattle.facet_solver_reader.specs.Known.{Key, named}
use Rattle.facet_solver_reader.specs.Views.{part_view, parts_view}
use Rattle.facet_solver_reader.proofs.RestNames.{IsTaker, long_parts, part_read, taken_twice, taker_here, taker_same, taker_unshared}
use Rattle.facet_solver_reader.proofs.tables.names.name_twice.Goals as goal
use Rattle.facet_solver_reader.proofs.tables.names.name_twice.Goals.{then-has_name+in_default, else-has_name}

pub loop-index-preserved : goal.loop-index-preserved
loop-index-preserved c =
    let o = c.args.ordered.now in
    let x : Key = named c.args.name.now in
    let ps = parts_view c.args.parts.now in
    let n = c.loop-index.index in
    let at : slice_get ps n ≡ Some (part_view c.index-parts-index.result) = part_read c.args.parts.now n c.index-parts-index.result c.loop-index-test.true c.index-parts-index.is in
    elim c.if-has_name.branch [
      | then-has_name+in_default w ↦
          let none : c.loop-index.earlier ≡ None = w.in_default.is in
          subst (IsTaker o x ps (n + 1)) (sym w.earlier-is)
          (taker_here o x ps n (part_view c.index-parts-index.result) at (subst (IsTaker o x ps n) none c.loop-index.invariant) (sym c.has_name.ensures ∙ w.if-has_name.true))
      | else-has_name w ↦
          subst (IsTaker o x ps (n + 1)) (sym w.earlier-is)
          (taker_same o x ps n (part_view c.index-parts-index.result) at c.loop-index.earlier c.loop-index.invariant (sym c.has_name.ensures ∙ w.if-has_name.false))
    ]

pub returns-in-Some : goal.returns-in-Some
returns-in-Some c =
    let o = c.args.ordered.now in
    let ps = parts_view c.args.parts.now in
    let n = c.loop-index.index in
    let at : slice_get ps n ≡ Some (part_view c.index-parts-index.result) = part_read c.args.parts.now n c.index-parts-index.result c.loop-index-test.true c.index-parts-index.is in (
      refl,
      taken_twice o (named c.args.name.now) ps n (part_view c.index-parts-index.result) at c.loop-index.earlier c.in-Some.first c.loop-index.invariant c.in-Some.is
          (sym c.has_name.ensures ∙ c.if-has_name.true),
    )

pub unreachable-requires : goal.unreachable-requires
unreachable-requires c =
    taker_unshared c.args.ordered.now (named c.args.name.now) (parts_view c.args.parts.now) c.loop-index.index c.loop-index.earlier
    (omega (arith, long_parts c.args.parts.now, c.loop-index-test.false)) c.loop-index.invariant c.requires
