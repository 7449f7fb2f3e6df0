use Rattle.std.proofs.Common.{◌≡◌, ◌∙◌, ap, sym, rules, tests}
use Rattle.std.specs.Prelude.{◌||◌}
use Rattle.std.specs.List.{list_any}
use Rattle.std.proofs.lemmas.Iterator.{YieldsList-from_slice}
use Rattle.std.proofs.lemmas.Iterator.Search.{any_from_yields_List}
use Rattle.facet_solver_shape.specs.declared.resolution.field.VariantSelection.{VariantSelection}
use Rattle.facet_solver_reader.specs.declared.reading.FieldPlace.{FieldPlace}
use Rattle.facet_solver_reader.specs.LookUps.{fields_of, goes_on_from, selections_of}
use Rattle.facet_solver_reader.specs.PathTexts.{is_text_of}
use Rattle.facet_solver_reader.proofs.reading.Reading.has_block.Goals as goal

pub returns-else-is_selected : goal.returns-else-is_selected
returns-else-is_selected c =
    let kind = c.args.self.now.kind in
    let text = c.args.path.now in
    let is_there = λ (s : VariantSelection). is_text_of s.path text in
    let goes_on = λ (f : FieldPlace). goes_on_from text f.path in
    let selected : c.any-is_selected.result ≡ list_any is_there (selections_of kind) =
    any_from_yields_List is_there _ _ c.any-is_selected.result c.any-is_selected.ensures.ran
    (YieldsList-from_slice (selections_of kind) (search rules))
    (λ x b q k. search (rules, tests)) in
    let below : c.any.result ≡ list_any goes_on (fields_of kind) =
    any_from_yields_List goes_on _ _ c.any.result c.any.ensures.ran
    (YieldsList-from_slice (fields_of kind) (search rules))
    (λ x b q k. search (rules, tests)) in
    below
    ∙ ap (λ b. b || list_any goes_on (fields_of kind)) (sym c.if-is_selected.false ∙ selected)
