use Rattle.std.proofs.Common.{◌≡◌, ◌∙◌, ap, length, subst, sym, false, true}
use Rattle.std.specs.List.{All}
use Rattle.facet_solver_reader.specs.Blaming.{IsTakenBranch, IsTakenList}
use Rattle.facet_solver_reader.specs.Nodes.{value_of}
use Rattle.facet_solver_reader.specs.Reading.{AreListCounts, object_view}
use Rattle.facet_solver_reader.specs.Readings.{ReadsValue}
use Rattle.facet_solver_reader.specs.Tables.{BranchIsBefore, ListIsServed, rules_at}
use Rattle.facet_solver_reader.specs.TypeNames.{list_name}
use Rattle.facet_solver_reader.specs.Views.{list_view, selection_view}
use Rattle.facet_solver_reader.specs.Why.{IsReadByBranch}
use Rattle.facet_solver_reader.specs.declared.count.Count.TheVariants as counts
use Rattle.facet_solver_reader.proofs.ChosenBranch.{read_at}
use Rattle.facet_solver_reader.proofs.Quantifiers.{all_at, all_of_last}
use Rattle.facet_solver_reader.proofs.TakenLists.{branch_reads, branch_taken}
use Rattle.facet_solver_reader.proofs.why.several.add_branch.Goals as goal

pub count_one_branch-count-requires-clause-branch : goal.count_one_branch-count-requires-clause-branch
count_one_branch-count-requires-clause-branch c =
    all_at (ListIsServed c.args.tables.now) (selection_view c.args.selection.now).branches
    c.requires.branch.0 (list_view c.args.branch.now) c.requires.served c.requires.branch.1

pub count_one_branch-count-requires-clause-before : goal.count_one_branch-count-requires-clause-before
count_one_branch-count-requires-clause-before c =
    let below = c.args.tallied.now.object.list.now.below.items in
    subst (λ ns. BranchIsBefore c.args.tables.now below (length ns) (list_view c.args.branch.now))
    (sym c.deref.ensures.value)
    (all_at (BranchIsBefore c.args.tables.now below (length c.args.tallied.now.counts.items))
    (selection_view c.args.selection.now).branches c.requires.branch.0
    (list_view c.args.branch.now) c.requires.before c.requires.branch.1)

pub count_one_branch-count-requires-clause-counts : goal.count_one_branch-count-requires-clause-counts
count_one_branch-count-requires-clause-counts c =
    subst (AreListCounts c.args.tables.now c.args.nodes.now c.args.tallied.now.object)
    (sym c.deref.ensures.value) c.requires.tallied.counts

pub returns-in-Ok : goal.returns-in-Ok
returns-in-Ok c =
    let t = c.args.tables.now in
    let rules = rules_at t in
    let nodes = c.args.nodes.now in
    let o = c.args.tallied.now.object in
    let s = selection_view c.args.selection.now in
    let id = list_view c.args.branch.now in
    let k = c.requires.branch.0 in
    let n = c.count_one_branch-count.result in
    let read = read_at rules (ReadsValue rules) (object_view nodes o) s k n
    (λ (e : n ≡ counts.None).
    let is : c.is_none.result ≡ true = c.is_none.ensures.1 e in
    let isnt : c.is_none.result ≡ false = c.if-is_none.false in absurd (cc))
    (c.count_one_branch-count.ensures k c.requires.branch.1) in
    let branch = c.branch_of-branch.result in
    let same : id ≡ list_view branch.list = sym c.branch_of-branch.ensures.list in
    let served = all_at (ListIsServed t) s.branches k id c.requires.served c.requires.branch.1 in
    let here : IsTakenBranch t nodes o branch =
    record {
      served = subst (ListIsServed t) same served;
      called = c.branch_of-branch.ensures.name ∙ ap (list_name t.shapes.now) same;
      taken =
          subst (IsTakenList t nodes o) same
          (branch_taken t c.requires.tables nodes o s c.requires.part k read.0 read.1 id
          c.requires.branch.1);
      reads =
          subst (IsReadByBranch rules (value_of nodes o.node)) same
          (branch_reads t c.requires.tables nodes o s c.requires.part k read.0 read.1 id
          c.requires.branch.1);
    } in
    subst (All (IsTakenBranch t nodes o)) (sym c.in-Ok.ensures.items)
    (all_of_last (IsTakenBranch t nodes o) c.args.branches.now.items branch c.requires.branches
    here)
