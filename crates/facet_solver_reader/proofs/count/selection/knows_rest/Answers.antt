use Rattle.std.proofs.Common.{◌≡◌, ap, map, refl, true, false}
use Rattle.facet_solver_reader.specs.Known.{Chooses, IsKnown, rest}
use Rattle.facet_solver_reader.specs.Parts.{ListId}
use Rattle.facet_solver_reader.specs.Tables.{ListIsServed, rules_at}
use Rattle.facet_solver_reader.specs.Views.{list_view, selection_view}
use Rattle.facet_solver_reader.proofs.CountingObjects.{all_seen, all_seen_more, none_of_each}
use Rattle.facet_solver_reader.proofs.CountingObjects.{seen_read}
use Rattle.facet_solver_reader.proofs.Knowledge.{known_in_some}
use Rattle.facet_solver_reader.proofs.Quantifiers.{all_at, all_of_none, any_at}
use Rattle.facet_solver_reader.proofs.count.selection.knows_rest.Goals as goal

pub loop-branch-init : goal.loop-branch-init
loop-branch-init c =
    all_of_none
    (λ (id : ListId). IsKnown (Chooses (rules_at c.args.tables.now).lists id) rest → ⊥)

pub branch_knows_rest-requires-clause-served : goal.branch_knows_rest-requires-clause-served
branch_knows_rest-requires-clause-served c =
    let ids = (selection_view c.args.selection.now).branches in
    let i = c.loop-branch.branch-index in
    all_at (ListIsServed c.args.tables.now) ids i (list_view c.branch-item.result)
    c.requires.served
    (seen_read list_view c.deref-branch-items.result.now ids i c.branch-item.result
    (ap (map list_view) c.deref-branch-items.ensures.value) c.loop-branch-test.true
    c.branch-item.is)

pub returns-then-branch_knows_rest : goal.returns-then-branch_knows_rest
returns-then-branch_knows_rest c =
    let lists = (rules_at c.args.tables.now).lists in
    let ids = (selection_view c.args.selection.now).branches in
    let i = c.loop-branch.branch-index in
    let at = seen_read list_view c.deref-branch-items.result.now ids i c.branch-item.result
    (ap (map list_view) c.deref-branch-items.ensures.value) c.loop-branch-test.true
    c.branch-item.is in
    let here = c.branch_knows_rest.ensures.0 c.if-branch_knows_rest.true in (
      λ p.
          (known_in_some lists (selection_view c.args.selection.now) rest).1
          (any_at (λ id. IsKnown (Chooses lists id) rest) ids i
          (list_view c.branch-item.result) at here),
      λ k. refl,
    )

pub loop-branch-preserved : goal.loop-branch-preserved
loop-branch-preserved c =
    let lists = (rules_at c.args.tables.now).lists in
    all_seen_more list_view c.deref-branch-items.result.now
    (λ (id : ListId). IsKnown (Chooses lists id) rest → ⊥) c.loop-branch.branch-index
    c.branch-item.result c.loop-branch-test.true c.branch-item.is c.loop-branch.invariant
    (λ k.
    let is : c.branch_knows_rest.result ≡ true = c.branch_knows_rest.ensures.1 k in
    let isnt : c.branch_knows_rest.result ≡ false = c.if-branch_knows_rest.false in
    absurd (cc))

pub returns : goal.returns
returns c =
    let lists = (rules_at c.args.tables.now).lists in
    let ids = (selection_view c.args.selection.now).branches in
    let none = all_seen list_view c.deref-branch-items.result.now
    (λ (id : ListId). IsKnown (Chooses lists id) rest → ⊥) ids c.loop-branch.branch-index
    (ap (map list_view) c.deref-branch-items.ensures.value) c.loop-branch-test.false
    c.loop-branch.invariant in (
      λ (p : false ≡ true). absurd (cc),
      λ k.
          absurd (none_of_each (λ id. IsKnown (Chooses lists id) rest) ids none
          ((known_in_some lists (selection_view c.args.selection.now) rest).0 k)),
    )
