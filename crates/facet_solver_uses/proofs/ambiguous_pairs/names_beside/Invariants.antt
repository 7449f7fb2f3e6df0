use Rattle.std.proofs.Common.{◌≡◌, ◌++◌, filter, is_some, map, not}
use Rattle.facet_solver.specs.Fields.{entry_view}
use Rattle.facet_solver.specs.Names.{names_of}
use Rattle.facet_solver.specs.Resolved.{field_by_name}
use Rattle.facet_solver_uses.specs.AmbiguousPairs.{names_beside}
use Rattle.facet_solver_uses.proofs.ambiguous_pairs.names_beside.Given as goal

-- the names so far, and those of the fields that are left
abbrev pub invariant-loop-field : goal.invariant-loop-field
invariant-loop-field l =
    names_of l.names.items
    ++ filter (λ name. not (is_some (field_by_name name l.other)))
    (map (λ f. f.name) (map (λ e. e.1) (map entry_view l.field-iterator)))
    ≡ names_beside l.other l.resolution
