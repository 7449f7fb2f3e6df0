use Rattle.std.proofs.Common.{map}
use Rattle.facet_solver_reader.specs.declared.count.Count.TheVariants.{None as NoCount}
use Rattle.facet_solver_reader.specs.Counted.{Counted}
use Rattle.facet_solver_reader.specs.Views.{named_view}
use Rattle.facet_solver_reader.proofs.Forms.{OfVariantBelow}
use Rattle.facet_solver_reader.proofs.NamedVariants.{AsUnit}
use Rattle.facet_solver_reader.proofs.read.variant.unit_index.Given as goal

-- no variant before this one is a unit of the name
abbrev pub invariant-loop-k : goal.invariant-loop-k
invariant-loop-k l =
    Counted (OfVariantBelow (AsUnit (map named_view l.variants) l.name) l.k) NoCount
