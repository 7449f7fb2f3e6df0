use Rattle.std.proofs.Common.{◌≡◌, ◌∙◌, length, refl, subst, slice_get, List, Option, Some}
use Rattle.std.proofs.lemmas.Option.{slice_get_read}
use Rattle.facet_solver_reader.specs.declared.tables.tags.TagTable.{TagTable}
use Rattle.facet_solver_reader.proofs.TagTexts.{tag_found}
use Rattle.facet_solver_reader.proofs.count.tagged.tag_at.Goals as goal

pub returns : goal.returns
returns c =
    let t = c.args.tables.now in
    let tags = c.deref.result.now in
    let x = c.in_ok-get.field-0.now in
    let look = c.in_ok-get.ensures.lookup in
    let at : slice_get t.tags.items c.index.result ≡ Some x =
    subst (λ (ts : List (Option TagTable)). slice_get ts c.index.result ≡ Some x)
    c.deref.ensures.value
    (slice_get_read tags (length tags) c.index.result x refl look.3.0 look.1) in
    tag_found t.shapes.now t.tags.items c.args.id x c.as_ref.result c.requires.tags
    (subst (λ i. slice_get t.tags.items i ≡ Some x) c.index.ensures at) c.as_ref.ensures.value
