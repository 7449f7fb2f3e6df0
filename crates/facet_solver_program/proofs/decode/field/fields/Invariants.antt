use Rattle.std.proofs.Common.{◌≡◌, map, drop}
use Rattle.serde_json.specs.View.{items_view}
use Rattle.facet_solver_program.specs.ShapeView.{field_view}
use Rattle.facet_solver_program.specs.Catalogue as catalogue
use Rattle.facet_solver_program.specs.Members.{each}
use Rattle.facet_solver_program.proofs.Each.{behind}
use Rattle.facet_solver_program.proofs.decode.field.fields.Given as goal

-- what all items say is what was decoded, and then what the rest says
abbrev pub invariant-loop-item : goal.invariant-loop-item
invariant-loop-item l =
    each catalogue.field (items_view l.items)
    ≡ behind (map field_view l.fields.items) (each catalogue.field (items_view (drop l.item-index l.items)))
