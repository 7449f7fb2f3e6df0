use Rattle.std.proofs.Common.{◌||◌, ap, sym, ◌∙◌}
use Rattle.facet_solver.specs.schema.Selected.{is_selected_by, name_of, selects}
use Rattle.facet_solver.specs.declared.schema.index.selected.Selected.{Selected}
use Rattle.facet_solver.proofs.VariantSets.{more_same}
use Rattle.facet_solver.proofs.schema.index.selected.Selected.add.Goals as goal

pub returns-then-is_same-clause-selected : goal.returns-then-is_same-clause-selected
returns-then-is_same-clause-selected c = λ asked i low.
    let at = c.args.at.now in
    let before = c.args.before.now in
    more_same before at.bound at.index (name_of c.in-Same.known) (name_of at.variant) c.requires.bound (sym c.is_same.ensures ∙ c.if-is_same.true) asked i low
    ∙ ap (λ (s : Selected). is_selected_by at asked i || selects s before.members asked i) (sym c.in-Same.is)
