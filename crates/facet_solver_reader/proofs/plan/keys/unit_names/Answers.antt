use Rattle.std.proofs.Common.{◌∙◌, ◌&&◌, ◌||◌, ◌≤◌, ap, arith, length, string_bytes, Bool}
use Rattle.std.specs.List.{list_any}
use Rattle.std.specs.Str.{bytes_eq}
use Rattle.facet_solver_shape.specs.declared.shape.Variant.{Variant}
use Rattle.facet_solver_shape.specs.Names.{Name}
use Rattle.facet_solver_reader.specs.Content.{is_unit}
use Rattle.facet_solver_reader.proofs.Pairs.{take_past}
use Rattle.facet_solver_reader.proofs.PlanKeys.{any_upto_one}
use Rattle.facet_solver_reader.proofs.plan.keys.unit_names.Goals as goal

-- whether the name is that of a variant without content to tell
named : Name → Variant → Bool
named name v = is_unit v && bytes_eq (string_bytes v.name) name

pub loop-variant-preserved : goal.loop-variant-preserved
unfolding named
loop-variant-preserved c = λ name.
    c.in_ok-push_unit_name.ensures name
    ∙ ap (λ (b : Bool). b || named name c.variant-item.result) (c.loop-variant.invariant name)
    ∙ any_upto_one (named name) c.args.variants.now c.loop-variant.variant-index
    c.variant-item.result c.loop-variant-test.true c.variant-item.is

pub returns : goal.returns
unfolding named
returns c = λ name.
    let past : length c.args.variants.now ≤ c.loop-variant.variant-index =
    omega (arith, c.loop-variant-test.false) in
    c.loop-variant.invariant name
    ∙ ap (list_any (named name)) (take_past c.loop-variant.variant-index c.args.variants.now past)
