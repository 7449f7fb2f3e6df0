use Rattle.std.proofs.Common.{map}
use Rattle.facet_solver_reader.specs.Types.{joined_from}
use Rattle.facet_solver_reader.specs.Views.{list_view}
use Rattle.facet_solver_reader.proofs.Indexed.{Left}
use Rattle.facet_solver_reader.proofs.parts.branches.joined.Given as goal

-- the branches of the variants before this one that join
abbrev pub invariant-loop-k : goal.invariant-loop-k
invariant-loop-k l = Left (joined_from l.types l.id) (map list_view l.joined.items) l.k l.variants
