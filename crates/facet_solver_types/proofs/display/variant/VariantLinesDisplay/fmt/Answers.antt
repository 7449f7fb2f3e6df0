use Rattle.std.proofs.Common.{ℕ, refl, true, ap}
use Rattle.std.proofs.Output.{has_written_of_eq, has_written_append}
use Rattle.std.specs.List.{flat_map}
use Rattle.facet_solver_shape.specs.Names.{variant_names}
use Rattle.facet_solver_shape.specs.declared.shape.Variant.{Variant}
use Rattle.facet_solver_types.specs.PrintedVariants.{variant_line}
use Rattle.facet_solver_types.proofs.Pieces.{numbered_piece_more, all_numbered}
use Rattle.facet_solver_types.proofs.display.variant.VariantLinesDisplay.fmt.Goals as goal

-- one line more
pub loop-number-preserved : goal.loop-number-preserved
loop-number-preserved g c plain =
    let shapes = c.args.self.now.shapes.now in
    let variants = c.args.self.now.variants.now in
    let so_far = c.loop-number.invariant plain in
    has_written_of_eq _ _ _ _ _
    (numbered_piece_more (λ (p : ℕ × Variant). variant_line shapes (variant_names variants) p.0 p.1) variants
    c.loop-number.number c.variant-item.result c.loop-number-test.true c.variant-item.is)
    (has_written_append _ _ _ _ _ _ so_far (c.in_ok-write.ensures.writes so_far.plain (refl {a = true})))

-- all lines
pub returns-clause-writes : goal.returns-clause-writes
returns-clause-writes g c plain ok =
    let shapes = c.args.self.now.shapes.now in
    let variants = c.args.self.now.variants.now in
    has_written_of_eq _ _ _ _ _
    (ap (flat_map (λ (p : ℕ × Variant). variant_line shapes (variant_names variants) p.0 p.1))
    (all_numbered variants c.loop-number.number c.loop-number-test.false))
    (c.loop-number.invariant plain)
