use Rattle.std.proofs.Common.{take}
use Rattle.std.specs.Fmt.{HasWritten, IsPlainFormatter}
use Rattle.std.specs.List.{enumerate_from, flat_map}
use Rattle.facet_solver_shape.specs.Names.{variant_names}
use Rattle.facet_solver_types.specs.PrintedVariants.{variant_line}
use Rattle.facet_solver_types.proofs.display.variant.VariantLinesDisplay.fmt.Given as goal

-- the lines so far are written
abbrev pub invariant-loop-number : goal.invariant-loop-number
invariant-loop-number g l =
    let shapes = l.self.shapes.now in
    let variants = l.self.variants.now in
    IsPlainFormatter l.initial.f
    → HasWritten g.W.Write.write_str_gives l.initial.f (flat_map (λ p. variant_line shapes (variant_names variants) p.0 p.1) (take l.number (enumerate_from 0 variants))) l.f
