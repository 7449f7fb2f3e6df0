use Rattle.std.proofs.Common.{ap, ◌∙◌}
use Rattle.std.specs.List.{list_any}
use Rattle.facet_solver_shape.specs.Names.{name_eq}
use Rattle.facet_solver_shape.specs.Resolved.{Selection}
use Rattle.facet_solver.proofs.State.{variant_named}
use Rattle.facet_solver.proofs.solver.conditions.selects_variant.selects_variant.Goals as goal

pub returns : goal.returns
returns c =
    c.is_selected.ensures
    ∙ variant_named c.variant_selections.result.now c.args.name.now
    ∙ ap (list_any (λ (selection : Selection). name_eq selection.variant_name c.args.name.now)) c.variant_selections.ensures
