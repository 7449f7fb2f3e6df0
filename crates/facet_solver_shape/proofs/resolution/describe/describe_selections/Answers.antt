use Rattle.std.proofs.Common.{◌++◌, map, codes, ap, sym, ◌∙◌}
use Rattle.std.specs.List.{flat_map}
use Rattle.std.proofs.lemmas.List.{take_all}
use Rattle.facet_solver_shape.specs.Resolved.{selection_text, description, selection_view}
use Rattle.facet_solver_shape.proofs.Resolved.{text_of_selections}
use Rattle.facet_solver_shape.proofs.resolution.describe.describe_selections.Goals as goal

pub returns : goal.returns
returns c =
    let first = c.in-Some.first.now in
    let rest = c.in-Some.rest.now in
    c.loop-selection.invariant
    ∙ (λ i. (c.in_ok-push_selection.ensures i) ++ flat_map (λ p. codes " + " ++ selection_text (selection_view p)) (take_all c.loop-selection.selection-index rest c.loop-selection-test.false i))
    ∙ ap (λ bs. (bs ++ selection_text (selection_view first)) ++ flat_map (λ p. codes " + " ++ selection_text (selection_view p)) rest) c.in_ok-text.ensures.bytes
    ∙ text_of_selections first rest
    ∙ ap (λ ps. description (map selection_view ps)) (sym c.in-Some.ensures.cases.0)
