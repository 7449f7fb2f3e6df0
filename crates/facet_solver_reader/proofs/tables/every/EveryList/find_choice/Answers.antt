use Rattle.std.proofs.Common.{◌≡◌, ◌∙◌, true, false, Some, ap, length, refl, slice_get, sym}
use Rattle.std.proofs.lemmas.Option.{same_Some, slice_get_read}
use Rattle.facet_solver_reader.specs.declared.tables.every.Listed.{Listed}
use Rattle.facet_solver_reader.specs.Listing.{parts_have_choices}
use Rattle.facet_solver_reader.proofs.Marking.{marks_one}
use Rattle.facet_solver_reader.proofs.tables.every.EveryList.find_choice.Goals as goal

pub returns : goal.returns
returns c =
    let every = c.args.self.now in
    let lists = every.lists.items in
    let number = c.args.number in
    let first = c.index.result.now in
    let second = c.index-else-index.result.now in
    let third = c.index_mut.result.now in
    let there-1 : slice_get lists number ≡ Some first =
    slice_get_read lists (length lists) number first refl c.requires c.index.ensures in
    let there-2 : slice_get lists number ≡ Some second =
    slice_get_read lists (length lists) number second refl c.requires c.index-else-index.ensures in
    let there-3 : slice_get lists number ≡ Some third =
    slice_get_read lists (length lists) number third refl c.requires c.index_mut.ensures.value in
    let unmarked : third.has_choice ≡ false =
    ap (λ (l : Listed). l.has_choice) (same_Some third first (sym there-3 ∙ there-1))
    ∙ c.if-index.false in
    let parts : c.deref.result.now ≡ third.parts.items =
    c.deref.ensures.value
    ∙ ap (λ (l : Listed). l.parts.items) (same_Some second third (sym there-2 ∙ there-3)) in
    let have : parts_have_choices every third.parts.items ≡ true =
    ap (parts_have_choices every) (sym parts) ∙ sym c.parts_have_choices.ensures
    ∙ c.if-not-parts_have_choices.false in
    marks_one every _ number third there-3 refl refl unmarked have
