use Rattle.std.proofs.Common.{◌≡◌, ◌<◌, ◌≤◌, IsSorted, length, None, ◌+◌, ◌++◌, List, Bor, Some, Vec, Global, ap, sym, ◌∙◌, subst, get_or, take, arith, IsTrue}
use Rattle.std.specs.List.{dedup}
use Rattle.std.proofs.lemmas.List.{map-append}
use Rattle.std.proofs.lemmas.List.Filters.{dedup_is}
use Rattle.facet_solver_shape.specs.Names.{Name, name_ref_cmp, names_of}
use Rattle.facet_solver_reader.specs.declared.part.ListId.{ListId}
use Rattle.facet_solver_reader.specs.Known.{named}
use Rattle.facet_solver_reader.specs.Parts.{a_selection}
use Rattle.facet_solver_reader.specs.Placing.{AreThose, entry_of, part_knows}
use Rattle.facet_solver_reader.specs.Views.{list_view, selection_view}
use Rattle.facet_solver_reader.proofs.PartNames.{AreNamesOfLists, deduped_sorted, deduped_those, made_of, names_of_branches}
use Rattle.facet_solver_reader.proofs.PartNames.{names_of_list, names_of_no_list, same_name}
use Rattle.facet_solver_reader.proofs.tables.names.names_of_selection.Goals as goal
use Rattle.facet_solver_reader.proofs.tables.names.names_of_selection.Goals.{in-Some+in_ok-extend_from_slice, in_default}

pub loop-branch-preserved : goal.loop-branch-preserved
loop-branch-preserved c =
    let o = c.args.ordered.now in
    let ids = c.args.selection.now.branches.items in
    let i = c.loop-branch.branch-index in
    let id = c.branch-item.result in
    let same = c.deref-branch-items.ensures.value in
    let within : i < length ids = omega (arith, c.loop-branch-test.true, c.deref-branch-items.ensures.len, c.args.selection.now.branches.ok.0) in
    let here : id ≡ get_or ids i id = c.branch-item.is ∙ ap (λ (bs : List ListId). get_or bs i id) same in
    elim c.match-entry.branch [
      | in-Some+in_ok-extend_from_slice w ↦
          let l = w.in-Some.list.now in
          let old = c.loop-branch.names.items in
          let entry : entry_of o (list_view (get_or ids i id)) ≡ Some l = ap (λ (b : ListId). entry_of o (list_view b)) (sym here) ∙ sym w.in-Some.ensures in
          let new : names_of c.match-entry.names.items ≡ names_of old ++ names_of l.names.items =
          ap (λ (v : Vec (Bor Name) Global). names_of v.items) w.names-is
          ∙ ap names_of w.in_ok-extend_from_slice.ensures.items
          ∙ map-append (λ (n : Bor Name). n.now) old w.deref.result.now
          ∙ ap (λ (ns : List (Bor Name)). names_of old ++ names_of ns) w.deref.ensures.value in
          names_of_list o ids i id (names_of old) within c.loop-branch.invariant l (names_of c.match-entry.names.items) entry new
      | in_default w ↦
          let entry : entry_of o (list_view (get_or ids i id)) ≡ None = ap (λ (b : ListId). entry_of o (list_view b)) (sym here) ∙ sym w.in_default.ensures in
          subst (λ (v : Vec (Bor Name) Global). AreNamesOfLists o (take (i + 1) ids) (names_of v.items)) (sym w.names-is)
          (names_of_no_list o ids i id (names_of c.loop-branch.names.items) within c.loop-branch.invariant entry)
    ]

-- the names that are kept
module _ (c : goal.After-drop-names-2) where
  sorted : IsSorted name_ref_cmp c.sort_unstable.new.self.items
  sorted = c.sort_unstable.ensures.sorted

  kept : c.deref-2.result.now ≡ dedup same_name c.sort_unstable.new.self.items
  kept = c.deref-2.ensures.value ∙ dedup_is _ _ _ c.dedup.ensures.filtered

pub returns-clause-sorted : goal.returns-clause-sorted
returns-clause-sorted c =
    made_of (IsSorted name_ref_cmp) c.deref-2.result.now c.from_slice.result
    c.from_slice.ensures.items
    (subst (IsSorted name_ref_cmp) (sym (kept c)) (deduped_sorted _ (sorted c)))

pub returns-clause-those : goal.returns-clause-those
returns-clause-those c =
    let o = c.args.ordered.now in
    let s = c.args.selection.now in
    let P : Name → Type 0 = λ x. IsTrue (part_knows o (named x) (a_selection (selection_view s))) in
    let all : length s.branches.items ≤ c.loop-branch.branch-index =
    omega (arith, c.loop-branch-test.false, c.deref-branch-items.ensures.len, s.branches.ok.0) in
    made_of (λ ns. AreThose P (names_of ns)) c.deref-2.result.now c.from_slice.result
    c.from_slice.ensures.items
    (subst (λ ns. AreThose P (names_of ns)) (sym (kept c))
    (deduped_those _ (sorted c) P
    (names_of_branches o s c.loop-branch.branch-index c.loop-branch.names.items
    c.sort_unstable.new.self.items all c.loop-branch.invariant c.sort_unstable.ensures.permutation)))
