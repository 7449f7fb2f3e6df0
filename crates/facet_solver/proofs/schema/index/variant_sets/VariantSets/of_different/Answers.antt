use Rattle.std.proofs.Common.{ap, ◌∙◌, ◌||◌}
use Rattle.facet_solver.specs.schema.Selected.{is_selected_by}
use Rattle.facet_solver.proofs.schema.index.variant_sets.VariantSets.of_different.Goals as goal

pub returns-clause-sets : goal.returns-clause-sets
returns-clause-sets c = λ asked i low.
    c.in_ok-add.ensures.sets asked i low ∙ ap (λ b. is_selected_by c.args.at.now asked i || b) (c.in_ok-sets.ensures.sets asked i)
