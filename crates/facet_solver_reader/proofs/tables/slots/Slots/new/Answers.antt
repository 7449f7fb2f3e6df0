use Rattle.std.proofs.Common.{◌+◌, ◌≤◌, ◌∙◌, List, ap, length, subst, sym, arith}
use Rattle.facet_solver_reader.specs.declared.tables.slots.ShapeSlots.{ShapeSlots}
use Rattle.facet_solver_reader.specs.Slots.{AreFreeIn}
use Rattle.facet_solver_reader.specs.Types.{variants_at}
use Rattle.facet_solver_reader.proofs.Slotted.{AreFreeUpto, free_for_all, free_for_more}
use Rattle.facet_solver_reader.proofs.tables.slots.Slots.new.Goals as goal

pub loop-index-preserved : goal.loop-index-preserved
loop-index-preserved c =
    let shapes = c.args.shapes.now in
    let slots = c.in_ok-new.field-0 in
    let variants =
    ap length (c.variants_at-variants.ensures ∙ ap (variants_at shapes) c.new.ensures) in
    subst (λ (ss : List ShapeSlots). AreFreeUpto shapes ss (c.loop-index.index + 1))
    (sym {A = List ShapeSlots} c.in_ok-push.ensures.items)
    (free_for_more shapes c.loop-index.slots.items c.loop-index.index slots c.loop-index.invariant
    (subst (λ m. AreFreeIn m slots) variants c.in_ok-new.ensures))

pub returns : goal.returns
returns c =
    let past : length c.args.shapes.now ≤ c.loop-index.index =
    omega (arith, c.len-index-end.ensures.value, c.loop-index-test.false) in
    free_for_all c.args.shapes.now _ c.loop-index.index c.loop-index.invariant past
