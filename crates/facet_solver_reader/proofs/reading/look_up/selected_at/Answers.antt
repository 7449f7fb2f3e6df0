use Rattle.std.proofs.Common.{◌≡◌, ◌∙◌, ap, sym, Bor, rules, tests}
use Rattle.std.specs.List.{find}
use Rattle.std.specs.Option.{option_map}
use Rattle.std.proofs.lemmas.Iterator.{YieldsList-from_slice}
use Rattle.std.proofs.lemmas.Iterator.Search.{find_from_yields_List}
use Rattle.facet_solver_shape.specs.declared.resolution.field.VariantSelection.{VariantSelection}
use Rattle.facet_solver_reader.specs.LookUps.{names_of, selections_of}
use Rattle.facet_solver_reader.specs.PathTexts.{is_text_of}
use Rattle.facet_solver_reader.specs.Told.{names_view}
use Rattle.facet_solver_reader.proofs.LookUps.{selected}
use Rattle.facet_solver_reader.proofs.reading.look_up.selected_at.Goals as goal

pub returns : goal.returns
returns c =
    let kind = c.args.kind.now in
    let text = c.args.path.now in
    let found : option_map (λ (s : Bor VariantSelection). s.now) c.find.result
    ≡ find (λ s. is_text_of s.path text) (selections_of kind) =
    find_from_yields_List (λ s. is_text_of s.path text) c.find.new.self _ c.find.result
    c.find.ensures.ran (YieldsList-from_slice (selections_of kind) (search rules))
    (λ x b q k. search (rules, tests)) in
    ap (option_map (λ (s : Bor VariantSelection). names_of s.now)) (sym c.in_ok-selection.was)
    ∙ selected kind text c.find.result found

pub returns-in_err-selection : goal.returns-in_err-selection
returns-in_err-selection c =
    let kind = c.args.kind.now in
    let text = c.args.path.now in
    let found : option_map (λ (s : Bor VariantSelection). s.now) c.find.result
    ≡ find (λ s. is_text_of s.path text) (selections_of kind) =
    find_from_yields_List (λ s. is_text_of s.path text) c.find.new.self _ c.find.result
    c.find.ensures.ran (YieldsList-from_slice (selections_of kind) (search rules))
    (λ x b q k. search (rules, tests)) in
    ap (option_map names_view) c.from_residual.ensures
    ∙ ap (option_map (λ (s : Bor VariantSelection). names_of s.now)) (sym c.in_err-selection.was)
    ∙ selected kind text c.find.result found
