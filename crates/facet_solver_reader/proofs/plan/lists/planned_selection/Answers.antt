use Rattle.std.proofs.Common.{◌≡◌, ◌∙◌, ap, refl, List}
use Rattle.std.specs.List.{filter_map}
use Rattle.facet_solver_reader.specs.declared.part.ListId.{ListId}
use Rattle.facet_solver_reader.specs.PlannedLists.{indices_of}
use Rattle.facet_solver_reader.specs.Slots.{index_of}
use Rattle.facet_solver_reader.specs.Views.{list_view, selection_view}
use Rattle.facet_solver_reader.proofs.Plans.{indices_viewed, selection_from}
use Rattle.facet_solver_reader.proofs.plan.lists.planned_selection.Goals as goal

-- the numbers are the indices of the branches
numbers : (c : goal.After-field-1) → c.in_ok-branches.branches.items ≡ indices_of c.args.tables.now.slots (selection_view c.args.selection.now).branches
numbers c =
    let slots = c.args.tables.now.slots in
    c.in_ok-branches.ensures
    ∙ ap (λ (ids : List ListId). filter_map (λ id. index_of slots (list_view id)) ids) c.deref.ensures.value
    ∙ indices_viewed slots c.args.selection.now.branches.items

pub returns-clause-indices : goal.returns-clause-indices
unfolding numbers
returns-clause-indices c = numbers c

pub returns-clause-planned : goal.returns-clause-planned
returns-clause-planned c = λ n.
    selection_from c.args.tables.now n c.args.selection.now _ c.requires.served c.requires.names refl
    (numbers c) (c.in_ok-names.ensures.items ∙ c.deref-2.ensures.value)
