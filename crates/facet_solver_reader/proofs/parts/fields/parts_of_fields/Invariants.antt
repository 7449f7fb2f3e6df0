use Rattle.std.proofs.Common.{◌≡◌, take}
use Rattle.facet_solver_reader.specs.Types.{parts_of_fields}
use Rattle.facet_solver_reader.specs.Views.{parts_view}
use Rattle.facet_solver_reader.proofs.parts.fields.parts_of_fields.Given as goal

-- the parts of the fields before this one
abbrev pub invariant-loop-field : goal.invariant-loop-field
invariant-loop-field l = parts_view l.parts.items ≡ parts_of_fields l.shapes (take l.field-index l.fields)
