-- What is reached from a root is there.
use Rattle.std.proofs.Common.{◌≡◌, ℕ, ◌≤◌, All, Option, Some, None, slice_get, length}
use Rattle.std.proofs.Common.{refl, sym, subst, arith, MatchOption}
use Rattle.std.proofs.lemmas.Option.{slice_get_within}
use Rattle.facet_solver_shape.specs.Catalogues.{Catalogue, IsChecked}
use Rattle.facet_solver_reader.specs.declared.tables.every.EveryList.{EveryList}
use Rattle.facet_solver_reader.specs.declared.tables.every.Listed.{Listed}
use Rattle.facet_solver_reader.specs.declared.tables.marks.Marked.{Marked}
use Rattle.facet_solver_reader.specs.declared.tables.marks.Marked.TheVariants.{Shape}
use Rattle.facet_solver_reader.specs.declared.tables.marks.Marked.TheVariants.{List as AList}
use Rattle.facet_solver_reader.specs.declared.tables.reached.Reached.{Reached}
use Rattle.facet_solver_reader.specs.EveryList.{AreEveryList, IsChosen, IsNumbered}
use Rattle.facet_solver_reader.specs.InRange.{AnyList, EndIsWithin, IsShape}
use Rattle.facet_solver_reader.specs.Marks.{HasChoiceAt, ListIsMarked, ShapeIsMarked}
use Rattle.facet_solver_reader.specs.OrderedLists.{BranchIsMarked, BranchesAreMarked, IsMarked}
use Rattle.facet_solver_reader.specs.Parts.{ListId, Part, a_member, a_selection, a_catch_all}
use Rattle.facet_solver_reader.specs.Slots.{index_of}
use Rattle.facet_solver_reader.specs.Types.{content_at}
use Rattle.facet_solver_reader.specs.Views.{end_view, list_view, parts_view}
use Rattle.facet_solver_reader.specs.WorkList.{AreReached, HasEnd, IsDone, IsReachedSoFar}
use Rattle.facet_solver_reader.specs.WorkList.{PartIsReached}
use Rattle.facet_solver_reader.proofs.InRange.{end_within, parts_within}
use Rattle.facet_solver_reader.proofs.Leads.{end_has, part_has}

module _ (shapes : Catalogue) (every : EveryList) (root p : ℕ) (r : Reached) (checked : IsChecked shapes) (are : AreEveryList shapes every) (u : IsReachedSoFar shapes every root p r) (past : length r.marks.order.items ≤ p) where
  -- what is marked is done
  done : (q : ℕ) (x : Marked) → slice_get r.marks.order.items q ≡ Some x
      → IsDone shapes every r x
  done q x is =
      let within = slice_get_within r.marks.order.items q x is in u.done q x (omega arith) is

  -- a shape that is marked has its end
  has_end : (id : ℕ) → ShapeIsMarked r.marks id → IsShape shapes id → HasEnd r.ends.items id
  has_end id m within =
      let long = u.of_shapes in
      let there = u.marks.shape_in id (m (omega (arith, within, long))) in
      done there.0 (Shape id) there.1

  -- a list that is marked under its number, if it has a choice, is marked
  has_mark : (id : ListId) → ListIsMarked every r.marks id → AnyList id
      → BranchIsMarked shapes every r.marks.lists.items id
  has_mark id m any chosen = go (index_of every.numbers id) refl (are.numbered id)
    where
      go : (o : Option ℕ) → index_of every.numbers id ≡ o
          → MatchOption o (IsChosen shapes id → ⊥) (IsNumbered every id)
          → (k : ℕ) × (index_of every.numbers id ≡ Some k) × IsMarked r.marks.lists.items k
      go None e n = absurd (n chosen)
      go (Some k) e n =
          let has : HasChoiceAt every k = record {
            list = n.list;
            is_there = n.is_there;
            chosen =
                (are.listed k n.list n.is_there).chosen.1 (subst (IsChosen shapes) (sym n.same) chosen);
          } in
          let within = slice_get_within every.lists.items k n.list n.is_there in
          let long = u.of_lists in
          (k, e, m k e has (omega (arith, within, long)))

  -- the branches of a part are marked
  branches_marked : (x : Part) → PartIsReached shapes every r x
      → BranchesAreMarked shapes every r.marks.lists.items x
  branches_marked (a_member m) h = tt
  branches_marked (a_selection s) h = h
  branches_marked (a_catch_all k) h = tt

  -- what parts of a list lead to is there
  parts_reached : (k : ℕ) (l : Listed) → slice_get every.lists.items k ≡ Some l
      → IsMarked r.marks.lists.items k
      → All (PartIsReached shapes every r) (parts_view l.parts.items)
  parts_reached k l is m =
      let there = u.marks.list_in k m in
      let marked = done there.0 (AList k) there.1 l is in
      let within = parts_within shapes checked (list_view l.id) (parts_view l.parts.items) (are.listed k l is).same in
      λ i d less.
      part_has has_end has_mark (content_at shapes) _ (marked i d less) (within i d less)

  -- all that is marked is reached
  pub reached_all : AreReached shapes every root r
  reached_all = record {
    same_length = u.of_ends;
    root_is_there = λ within. has_end root u.root_is_marked within;
    ends = λ id e is.
        let was = u.ends id e is in
        let within = subst (EndIsWithin shapes) (sym was.0) (end_within shapes checked id) in
        (was.0, end_has has_end has_mark (content_at shapes) (end_view e) was.1 within);
    lists = parts_reached;
    closed = record {
      same_length = u.of_lists;
      chosen = u.chosen;
      branches = λ k l is m i d less. branches_marked _ (parts_reached k l is m i d less);
    };
    sound = u.sound;
    met = u.met;
  }
