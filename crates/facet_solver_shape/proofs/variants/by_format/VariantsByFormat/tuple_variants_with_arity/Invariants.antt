use Rattle.std.proofs.Common.{◌≡◌, take}
use Rattle.facet_solver_shape.specs.Groups.{variants_view, entries_view, variants_with}
use Rattle.facet_solver_shape.proofs.variants.by_format.VariantsByFormat.tuple_variants_with_arity.Given as goal

-- what was found in the entries before this one
abbrev pub invariant-loop-variant : goal.invariant-loop-variant
invariant-loop-variant l = variants_view l.found.items ≡ variants_with l.arity (entries_view (take l.variant-index l.variant-items))
