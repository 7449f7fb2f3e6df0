use Rattle.std.proofs.Common.{◌↔◌, ◌∙◌, Bool, Some, None, ap, length, refl, slice_get, subst, sym}
use Rattle.std.specs.Prelude.{IsTrue}
use Rattle.std.proofs.lemmas.Option.{slice_get_past, slice_get_read}
use Rattle.facet_solver_reader.specs.EveryList.{IsChosen}
use Rattle.facet_solver_reader.specs.Views.{list_view}
use Rattle.facet_solver_reader.proofs.Marking.{told_at, told_is_chosen}
use Rattle.facet_solver_reader.proofs.tables.every.EveryList.has_choice.Goals as goal

pub returns-in-Some-get-clause-chosen : goal.returns-in-Some-get-clause-chosen
returns-in-Some-get-clause-chosen c =
    let every = c.args.self.now in
    let id = list_view c.args.id in
    let number = c.in-Some.number in
    let list = c.in-Some-get.list.now in
    let look = c.in-Some-get.ensures.lookup in
    let there =
    ap (λ xs. slice_get xs number) (sym c.deref.ensures.value)
    ∙ slice_get_read c.deref.result.now (length c.deref.result.now) number list refl look.3.0 look.1
    in
    let told = told_at every id number (Some list) (sym c.in-Some.ensures) there in
    λ shapes are.
    subst (λ (b : Bool). IsTrue b ↔ IsChosen shapes id) (sym told)
    (told_is_chosen shapes every id are)

pub returns-in-None-get-clause-told : goal.returns-in-None-get-clause-told
returns-in-None-get-clause-told c =
    let number = c.in-Some.number in
    let past = slice_get_past c.deref.result.now number c.in-None-get.ensures.lookup.3 in
    told_at c.args.self.now (list_view c.args.id) number None (sym c.in-Some.ensures)
    (ap (λ xs. slice_get xs number) (sym c.deref.ensures.value) ∙ past)

pub returns-in-None-get-clause-chosen : goal.returns-in-None-get-clause-chosen
returns-in-None-get-clause-chosen c =
    let every = c.args.self.now in
    let id = list_view c.args.id in
    let number = c.in-Some.number in
    let past = slice_get_past c.deref.result.now number c.in-None-get.ensures.lookup.3 in
    let told =
    told_at every id number None (sym c.in-Some.ensures)
    (ap (λ xs. slice_get xs number) (sym c.deref.ensures.value) ∙ past)
    in
    λ shapes are.
    subst (λ (b : Bool). IsTrue b ↔ IsChosen shapes id) (sym told)
    (told_is_chosen shapes every id are)
