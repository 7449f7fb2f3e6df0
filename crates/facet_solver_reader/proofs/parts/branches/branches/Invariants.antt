use Rattle.std.proofs.Common.{map}
use Rattle.facet_solver_reader.specs.Types.{branches_from}
use Rattle.facet_solver_reader.specs.Views.{list_view}
use Rattle.facet_solver_reader.proofs.Indexed.{Left}
use Rattle.facet_solver_reader.proofs.parts.branches.branches.Given as goal

-- the branches of the variants before this one
abbrev pub invariant-loop-k : goal.invariant-loop-k
invariant-loop-k l = Left (branches_from l.id) (map list_view l.branches.items) l.k l.variants
