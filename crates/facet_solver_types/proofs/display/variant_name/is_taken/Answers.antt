use Rattle.std.proofs.Common.{◌∙◌, sym, refl}
use Rattle.std.proofs.lemmas.Bool.{false≢true}
use Rattle.facet_solver_types.proofs.Numbered.{taken_now, taken_later}
use Rattle.facet_solver_types.proofs.display.variant_name.is_taken.Goals as goal

-- the first of those that are left has the name
pub returns-then-is_numbered : goal.returns-then-is_numbered
returns-then-is_numbered c =
    sym (taken_now c.args.variants.now c.loop-variant.variant-index c.variant-item.result c.args.number c.args.marks
    c.loop-variant-test.true c.variant-item.is
    (sym c.as_bytes.ensures.value ∙ c.if-is_numbered.ensures.0 refl))
    ∙ c.loop-variant.invariant

-- the others tell
pub loop-variant-preserved : goal.loop-variant-preserved
loop-variant-preserved c =
    sym (taken_later c.args.variants.now c.loop-variant.variant-index c.variant-item.result c.args.number c.args.marks
    c.loop-variant-test.true c.variant-item.is
    (λ e. false≢true (c.if-is_numbered.ensures.1 (c.as_bytes.ensures.value ∙ e))))
    ∙ c.loop-variant.invariant
