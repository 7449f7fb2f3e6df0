use Rattle.std.proofs.Common.{◌<◌, ◌-◌, arith, leb, rules}
use Rattle.std.proofs.lemmas.List.Sorted.{IsPartitionPoint-from_clause, IsPartitionedBy-leb}
use Rattle.facet_solver.specs.build.Starts.{IsLastStart}
use Rattle.facet_solver.proofs.Starts.{before_point}
use Rattle.facet_solver.proofs.build.starts.last_start.Goals as goal

-- the starts pass the rank at a point
point : (c : goal.After-partition_point) → (0 < c.partition_point.result) × IsLastStart c.args.starts.now c.args.rank (c.partition_point.result - 1)
point c =
    let starts = c.args.starts.now in
    let k = c.args.rank in
    before_point starts k c.requires.some c.requires.first c.partition_point.result c.partition_point.ensures.bound
    (IsPartitionPoint-from_clause (λ start. leb start k) starts c.partition_point.result c.partition_point.ensures.partitioned (IsPartitionedBy-leb (λ start. start) starts k c.requires.rise) (λ a r q h. search rules))

pub overflow_sub-result : goal.overflow_sub-result
overflow_sub-result c = let at = point c in omega (arith, at.0)

pub returns : goal.returns
returns c = let at = point c in at.1
