use Rattle.std.proofs.Common.{map, take, length, ap, sym, ◌∙◌}
use Rattle.facet_solver_shape.specs.Fields.{entry_view, FieldView}
use Rattle.facet_solver.specs.schema.Indexed.{fields_of_each}
use Rattle.facet_solver.specs.solver.Tag.{last_variant}
use Rattle.facet_solver.proofs.UnderWay.{each_more, count_before, fields_at, fields_at_is, way_start, way_more, way_end}
use Rattle.facet_solver.proofs.schema.index.Index.add_all.Goals as goal

pub loop-key-init : goal.loop-key-init
loop-key-init c =
    let rs = c.args.resolutions.now in
    let is = fields_at_is rs c.args.index c.index-resolutions-index.result c.requires.within c.index-resolutions-index.is in
    let all = ap (map (λ e. e.1)) (ap (map entry_view) c.into_iter-key-iterator.ensures.into_iter_gives.0 ∙ c.fields-key-items.ensures.in_order) in
    way_start (length rs) (fields_of_each (take c.args.index rs)) (fields_at rs c.args.index) c.into_iter-key-iterator.result c.args.self.now (all ∙ sym is) c.requires.before

pub loop-key-preserved : goal.loop-key-preserved
loop-key-preserved c =
    let rs = c.args.resolutions.now in
    let before = rw c.in-Some.ensures.steps at c.loop-key.invariant in
    let shape = ap (λ (f : FieldView). f.shape) c.field.view_is in
    let variant = c.last_variant.ensures ∙ ap (λ (f : FieldView). last_variant f.path) c.field.view_is in
    way_more (length rs) (fields_of_each (take c.args.index rs)) (fields_at rs c.args.index) c.in-Some.key.now c.in-Some.field.now c.last_variant.result variant c.next.new.self c.loop-key.self c.add.new.self
    c.args.index (count_before rs c.args.index c.requires.within) c.requires.within before (rw shape at c.in_ok-add.ensures)

pub returns : goal.returns
returns c =
    let rs = c.args.resolutions.now in
    let done = rw c.in-None.ensures.steps.0 at c.loop-key.invariant in
    rw (each_more rs c.args.index c.requires.within) (way_end (length rs) (fields_of_each (take c.args.index rs)) (fields_at rs c.args.index) c.loop-key.self done)
