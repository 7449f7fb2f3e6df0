use Rattle.std.proofs.Common.{map}
use Rattle.facet_solver_reader.specs.Counted.{Counted}
use Rattle.facet_solver_reader.specs.Views.{named_view}
use Rattle.facet_solver_reader.proofs.Forms.{OfVariantBelow}
use Rattle.facet_solver_reader.proofs.NamedVariants.{AsUnit}
use Rattle.facet_solver_reader.proofs.count.variant.count_units.Given as goal

abbrev pub invariant-loop-variant : goal.invariant-loop-variant
invariant-loop-variant l =
    Counted (OfVariantBelow (AsUnit (map named_view l.variants) l.name) l.variant-index) l.count
