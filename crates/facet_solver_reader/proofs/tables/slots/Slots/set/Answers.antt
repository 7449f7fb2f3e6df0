use Rattle.std.proofs.Common.{◌<◌, ◌≤◌, ◌∙◌, ap, length, refl, slice_get, sym, arith}
use Rattle.std.proofs.lemmas.Option.{slice_get_past}
use Rattle.facet_solver_reader.specs.Views.{list_view}
use Rattle.facet_solver_reader.proofs.Slotted.{set_at, set_where_lacking}
use Rattle.facet_solver_reader.proofs.tables.slots.Slots.set.Goals as goal

pub returns-then-shape-len : goal.returns-then-shape-len
returns-then-shape-len c =
    let slots = c.args.self.now in
    let within : c.index-shape.result < length slots.shapes.items =
    omega (arith, c.len.ensures, c.if-shape-len.true, slots.shapes.ok.0) in
    set_at slots _ (list_view c.args.id) c.args.index c.index-shape.result
    c.index_mut.result.now c.set.new.self
    (c.index-shape.ensures ∙ c.shape.ensures) within c.index_mut.ensures.value c.set.ensures refl

pub returns-else-shape-len : goal.returns-else-shape-len
returns-else-shape-len c =
    let slots = c.args.self.now in
    let past : length slots.shapes.items ≤ c.index-shape.result =
    omega (arith, c.len.ensures, c.if-shape-len.false, slots.shapes.ok.0) in
    set_where_lacking slots (list_view c.args.id) c.args.index
    (ap (slice_get slots.shapes.items) (sym (c.index-shape.ensures ∙ c.shape.ensures))
    ∙ slice_get_past slots.shapes.items c.index-shape.result past)
