use Rattle.std.proofs.Common.{◌≡◌, refl, sym, ap, ◌∙◌, Some, slice_get}
use Rattle.std.proofs.lemmas.Option.{slice_get_read, same_Some}
use Rattle.facet_solver_reader.specs.declared.tables.every.Listed.{Listed}
use Rattle.facet_solver_reader.specs.Slots.{index_of}
use Rattle.facet_solver_reader.specs.Views.{list_view}
use Rattle.facet_solver_reader.proofs.LeftLists.{none_by_test, not_none, marked_read, unmarked_read}
use Rattle.facet_solver_reader.proofs.tables.order.Ordered.is_left.Goals as goal

pub returns-then-marks-number-clause-left : goal.returns-then-marks-number-clause-left
returns-then-marks-number-clause-left c = λ t. record {
  list = c.index.result.now;
  is_there = slice_get_read c.args.every.now.lists.items _ c.args.number c.index.result.now refl c.requires.in_range c.index.ensures;
  marked = marked_read c.args.marks.now c.args.number _ c.requires.marks c.requires.in_range c.if-marks-number.true;
  unplaced = sym c.index_of.ensures ∙ none_by_test c.index_of.result c.is_none.result c.is_none.ensures t;
}

pub returns-then-marks-number-clause-other : goal.returns-then-marks-number-clause-other
returns-then-marks-number-clause-other c = λ f left.
    let there : slice_get c.args.every.now.lists.items c.args.number ≡ Some c.index.result.now = slice_get_read c.args.every.now.lists.items _ c.args.number c.index.result.now refl c.requires.in_range c.index.ensures in
    let same : left.list ≡ c.index.result.now = same_Some left.list c.index.result.now (sym left.is_there ∙ there) in
    not_none c.index_of.result c.is_none.result c.is_none.ensures f
    (c.index_of.ensures ∙ ap (λ (l : Listed). index_of c.args.self.now.slots (list_view l.id)) (sym same) ∙ left.unplaced)

pub returns-else-marks-number-clause-other : goal.returns-else-marks-number-clause-other
returns-else-marks-number-clause-other c = λ f left. unmarked_read c.args.marks.now c.args.number c.if-marks-number.false left.marked
