use Rattle.std.proofs.Common.{◌≡◌, map}
use Rattle.std.specs.List.{range_with_len}
use Rattle.facet_solver_reader.specs.JoinTables.{says}
use Rattle.facet_solver_reader.specs.Types.{all_join_at, joins_where}
use Rattle.facet_solver_reader.proofs.types.next_table.Given as goal

-- the table as far as the shape before this one
abbrev pub invariant-loop-index : goal.invariant-loop-index
invariant-loop-index l =
    l.next.items ≡ map (all_join_at (joins_where (says l.table) l.shapes) l.shapes) (range_with_len 0 l.index)
