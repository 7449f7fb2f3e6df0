use Rattle.std.proofs.Common.{◌≡◌, ◌∙◌, ◌++◌, ◌∷◌, [], ap, map, rules, subst, sym}
use Rattle.std.specs.List.{All}
use Rattle.facet_solver_reader.specs.Nodes.{members_in, value_of}
use Rattle.facet_solver_reader.specs.Tables.{ListIsServed, rules_at}
use Rattle.facet_solver_reader.specs.TypeNames.{list_name}
use Rattle.facet_solver_reader.specs.Views.{list_view, selection_view}
use Rattle.facet_solver_reader.specs.Why.{IsWithoutTag, LacksTag}
use Rattle.facet_solver_reader.specs.declared.read_error.Branch.{Branch}
use Rattle.facet_solver_reader.proofs.CountingObjects.{seen_read}
use Rattle.facet_solver_reader.proofs.Quantifiers.{all_at, all_of_last}
use Rattle.facet_solver_reader.proofs.why.tag.none_by_tag.Goals as goal

pub wants_other_text-requires-clause-served : goal.wants_other_text-requires-clause-served
wants_other_text-requires-clause-served c =
    let ids = (selection_view c.args.selection.now).branches in
    let i = c.loop-branch.branch-index in
    all_at (ListIsServed c.args.tables.now) ids i (list_view c.branch-item.result)
    c.requires.served
    (seen_read list_view c.deref-branch-items.result.now ids i c.branch-item.result
    (ap (map list_view) c.deref-branch-items.ensures.value) c.loop-branch-test.true
    c.branch-item.is)

pub loop-branch-preserved : goal.loop-branch-preserved
loop-branch-preserved c =
    let all = rules_at c.args.tables.now in
    let tag = c.in-Some.tag.now in
    let ms = members_in (value_of c.args.nodes.now c.args.object.now.node) in
    let P : Branch → Type 0 = IsWithoutTag all ms tag in
    let before = c.loop-branch.wanting.items in
    let branch = c.branch_of.result in
    let pushed : c.push.new.self.items ≡ before ++ branch ∷ [] = search rules in
    let lacks : LacksTag all ms (list_view c.branch-item.result) tag =
    c.wants_other_text.ensures c.if-not-wants_other_text.false in
    subst (All P) (sym pushed)
    (all_of_last P before branch c.loop-branch.invariant (
      c.branch_of.ensures.name ∙ ap (list_name all.shapes) (sym c.branch_of.ensures.list),
      subst (λ i. LacksTag all ms i tag) (sym c.branch_of.ensures.list) lacks,
    ))
