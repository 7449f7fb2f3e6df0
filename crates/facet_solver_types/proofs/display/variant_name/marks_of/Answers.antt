use Rattle.std.proofs.Common.{◌≡◌, ◌+◌, ◌-◌, suc, length, sym, ◌∙◌, arith}
use Rattle.facet_solver_shape.specs.Names.{variant_names}
use Rattle.facet_solver_types.proofs.Numbered.{next_try}
use Rattle.facet_solver_types.proofs.display.variant_name.marks_of.Goals as goal

-- the next number of `_` is tried
pub loop-marks-preserved : goal.loop-marks-preserved
loop-marks-preserved c =
    let count = length c.args.variants.now in
    let marks = c.loop-marks.marks in
    let one_less : count - marks ≡ suc (count - (marks + 1)) = omega arith in
    next_try (variant_names c.args.variants.now) c.args.number marks (count - marks) (count - (marks + 1)) one_less
    (sym c.is_taken.ensures ∙ c.if-not-is_taken.false)
    ∙ c.loop-marks.invariant
