use Rattle.std.proofs.Common.{◌≡◌, ◌∙◌, ap, subst, sym}
use Rattle.facet_solver_reader.specs.Documents.{Tree}
use Rattle.facet_solver_reader.specs.Nodes.{value_of}
use Rattle.facet_solver_reader.specs.Reading.{IsCount}
use Rattle.facet_solver_reader.specs.Tables.{rules_at}
use Rattle.facet_solver_reader.specs.TypeNames.{list_name}
use Rattle.facet_solver_reader.specs.Views.{list_view, target_view}
use Rattle.facet_solver_reader.specs.Why.{content_of}
use Rattle.facet_solver_reader.specs.Blaming.{IsUnreadAs}
use Rattle.facet_solver_reader.proofs.Blaming.{told_unread}
use Rattle.facet_solver_reader.proofs.why.untagged.misfit_alone.Goals as goal

pub returns-in-Ok-clause-misfit : goal.returns-in-Ok-clause-misfit
returns-in-Ok-clause-misfit c =
    let t = c.args.tables.now in
    let nodes = c.args.nodes.now in
    let v = value_of nodes c.args.node in
    let target = target_view c.args.content.now in
    let none = subst (IsCount t nodes c.args.node target)
    (c.is_none.ensures.0 c.if-not-is_none.false) c.in_ok-count.ensures.count in
    let same : content_of (list_view c.branch_of-branch.result.list) ≡ target =
    ap content_of c.branch_of-branch.ensures.list ∙ sym (ap target_view c.in-Content.is) in
    record {
      called = c.branch_of-branch.ensures.name
          ∙ ap (list_name t.shapes.now) (sym c.branch_of-branch.ensures.list);
      of_branch = c.in-Ok.ensures.target ∙ sym same;
      lacks = tt;
      no_key = tt;
      stop =
          told_unread (rules_at t) v target c.in-Ok.unread none
          (subst (λ (w : Tree). IsUnreadAs (rules_at t) target w c.in-Ok.unread) c.value.ensures
          c.in-Ok.ensures);
    }
