use Rattle.std.proofs.Common.{sym, ◌∙◌, ◌≡◌, Some, subst}
use Rattle.facet_solver_reader.specs.Marks.{HasChoiceAt}
use Rattle.facet_solver_reader.proofs.Marks.{choice_there, no_choice_there}
use Rattle.facet_solver_reader.proofs.tables.marks.chosen_number.Goals as goal

pub returns-then-list : goal.returns-then-list
returns-then-list c =
    let read = c.in_ok-list.ensures.lookup in
    (sym c.index_of.ensures ∙ c.in_ok-number.was, choice_there c.args.every.now c.in_ok-number.number c.in_ok-list.list.now c.deref.result.now c.deref.ensures.value read.3.0 read.1 c.if-list.true)

pub returns-else-list : goal.returns-else-list
returns-else-list c k is h =
    let read = c.in_ok-list.ensures.lookup in
    let one : Some k ≡ Some c.in_ok-number.number = sym is ∙ sym c.index_of.ensures ∙ c.in_ok-number.was in
    let same : k ≡ c.in_ok-number.number = cc in
    no_choice_there c.args.every.now c.in_ok-number.number c.in_ok-list.list.now c.deref.result.now c.deref.ensures.value read.3.0 read.1 c.if-list.false (subst (HasChoiceAt c.args.every.now) same h)
