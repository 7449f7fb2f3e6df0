use Rattle.std.proofs.Common.{◌≡◌, subst, sym, Some, slice_get}
use Rattle.facet_solver_reader.specs.Tables.{ListIsServed}
use Rattle.facet_solver_reader.specs.Views.{list_view, selection_view}
use Rattle.facet_solver_reader.proofs.Quantifiers.{all_at}
use Rattle.facet_solver_reader.proofs.Seen.{seen_at}
use Rattle.facet_solver_reader.proofs.why.tag.first_tag.Goals as goal

pub tag_of-requires-clause-served : goal.tag_of-requires-clause-served
tag_of-requires-clause-served c =
    let ids = c.args.selection.now.branches.items in
    let id = c.in_ok-branch.branch.now in
    let at : slice_get ids 0 ≡ Some id =
    subst (λ xs. slice_get xs 0 ≡ Some id) c.deref.ensures.value (sym c.in_ok-branch.ensures.value) in
    all_at (ListIsServed c.args.tables.now) (selection_view c.args.selection.now).branches 0
    (list_view id) c.requires.served (seen_at list_view ids 0 id at)
