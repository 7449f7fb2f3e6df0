use Rattle.std.proofs.Common.{All, arith, map, ◌≤◌, length}
use Rattle.std.proofs.lemmas.List.{length-map}
use Rattle.facet_solver_reader.specs.Marks.{ListIsMarked}
use Rattle.facet_solver_reader.specs.Views.{list_view}
use Rattle.facet_solver_reader.specs.Met.{IfChosen}
use Rattle.facet_solver_reader.proofs.StayMet.{one_of_all, stays_on}
use Rattle.facet_solver_reader.proofs.Marks.{added_on, each_all, each_more, list_still}
use Rattle.facet_solver_reader.proofs.tables.marks.Marks.mark_lists.Goals as goal

pub loop-list-preserved : goal.loop-list-preserved
loop-list-preserved c =
    let done = c.in_ok-mark_list.ensures in
    let new = c.mark_list.new.self in
    record {
      added = added_on c.args.every.now _ _ _ c.loop-list.invariant.added done.added;
      marked =
          each_more (ListIsMarked c.args.every.now c.loop-list.self)
          (ListIsMarked c.args.every.now new) list_view c.args.lists.now c.loop-list.list-index c.list-item.result
          (list_still c.args.every.now c.loop-list.self new done.added.kept) c.loop-list.invariant.marked (omega arith) c.list-item.is done.marked;
      met = λ shapes.
          stays_on shapes c.args.every.now _ _ _ (λ strict root. All (IfChosen shapes strict root) (map list_view c.args.lists.now)) (λ strict root. IfChosen shapes strict root (list_view c.list-item.result))
          (λ strict root p. one_of_all (IfChosen shapes strict root) list_view c.args.lists.now c.loop-list.list-index c.list-item.result (omega arith) c.list-item.is p)
          (c.loop-list.invariant.met shapes) (done.met shapes);
    }

pub returns-clause-marked : goal.returns-clause-marked
returns-clause-marked c =
    let past : length (map list_view c.args.lists.now) ≤ c.loop-list.list-index = omega (arith, length-map c.args.lists.now list_view) in
    each_all (ListIsMarked c.args.every.now c.loop-list.self) (map list_view c.args.lists.now) c.loop-list.list-index c.loop-list.invariant.marked past
