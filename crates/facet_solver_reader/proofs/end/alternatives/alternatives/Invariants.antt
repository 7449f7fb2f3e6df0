use Rattle.std.proofs.Common.{map}
use Rattle.facet_solver_reader.specs.Types.{alternatives_from}
use Rattle.facet_solver_reader.specs.Views.{alternative_view}
use Rattle.facet_solver_reader.proofs.Indexed.{Left}
use Rattle.facet_solver_reader.proofs.end.alternatives.alternatives.Given as goal

-- the variants before this one have their alternatives
abbrev pub invariant-loop-k : goal.invariant-loop-k
invariant-loop-k l =
    Left (alternatives_from l.types l.id) (map alternative_view l.alternatives.items) l.k l.variants
