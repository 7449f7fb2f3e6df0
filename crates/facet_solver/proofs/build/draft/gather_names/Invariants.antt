use Rattle.std.proofs.Common.{◌≡◌, ◌++◌, map}
use Rattle.facet_solver_shape.specs.Fields.{entry_view}
use Rattle.facet_solver_shape.specs.Names.{names_of}
use Rattle.facet_solver.specs.build.Draft.{names_of_fields}
use Rattle.facet_solver.proofs.build.draft.gather_names.Given as goal

-- the names so far, and those of the fields that are left
abbrev pub invariant-loop-field : goal.invariant-loop-field
invariant-loop-field l =
    names_of l.names.items ++ map (λ f. f.name) (map (λ e. e.1) (map entry_view l.field-iterator)) ≡ names_of_fields l.resolution
