use Rattle.std.proofs.Common.{◌≡◌, drop, length}
use Rattle.facet_solver_types.specs.Declarations as items
use Rattle.facet_solver_types.specs.Gatherings.{gathered_after, gathering_view}
use Rattle.facet_solver_types.specs.ReadFields.{field, fields}
use Rattle.facet_solver_types.specs.Understood.{field_view}
use Rattle.facet_solver_types.proofs.declare.fields.fields.Given as goal

-- those of all are those of the rest behind those so far
abbrev pub invariant-loop-one : goal.invariant-loop-one
invariant-loop-one l =
    fields l.all (items.fields_view l.written)
    ≡ gathered_after (λ found. field l.all (length found))
    (gathering_view field_view l.found) (items.fields_view (drop l.one-index l.written))
