use Rattle.std.proofs.Common.{map}
use Rattle.facet_solver_reader.specs.Types.{named_from}
use Rattle.facet_solver_reader.specs.Views.{named_view}
use Rattle.facet_solver_reader.proofs.Indexed.{Left}
use Rattle.facet_solver_reader.proofs.end.shape.named_variants.Given as goal

-- the variants before this one are named
abbrev pub invariant-loop-k : goal.invariant-loop-k
invariant-loop-k l = Left (named_from l.id) (map named_view l.named.items) l.k l.variants
