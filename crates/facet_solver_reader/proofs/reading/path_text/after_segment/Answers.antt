use Rattle.std.proofs.Common.{◌∙◌, ap, sym}
use Rattle.std.specs.Option.{option_map}
use Rattle.facet_solver_shape.specs.Paths.{segment_of, segment_text}
use Rattle.facet_solver_reader.specs.PathTexts.{after}
use Rattle.facet_solver_reader.proofs.PathTexts.{no_field, no_colons, behind_colons}
use Rattle.facet_solver_reader.proofs.reading.path_text.after_segment.Goals as goal

pub returns-in_err-behind_field-in-Variant : goal.returns-in_err-behind_field-in-Variant
returns-in_err-behind_field-in-Variant c =
    let segment = c.in-Variant in
    let seen = ap (λ s. after (segment_text (segment_of s)) c.args.text.now) segment.is in
    let none = no_field segment.field.now segment.variant.now c.args.text.now
    c.in_err-behind_field-in-Variant.ensures in
    ap (option_map (λ rest. rest.now)) c.from_residual.ensures ∙ none ∙ sym seen

pub returns-in_err-behind_colons-in-Variant : goal.returns-in_err-behind_colons-in-Variant
returns-in_err-behind_colons-in-Variant c =
    let segment = c.in-Variant in
    let seen = ap (λ s. after (segment_text (segment_of s)) c.args.text.now) segment.is in
    let none = no_colons segment.field.now segment.variant.now c.args.text.now
    c.in_ok-behind_field-in-Variant.behind_field.now c.in_ok-behind_field-in-Variant.ensures
    c.in_err-behind_colons-in-Variant.ensures in
    ap (option_map (λ rest. rest.now)) c.from_residual-in_err-behind_colons-in-Variant.ensures
    ∙ none ∙ sym seen

pub returns-in_ok-behind_colons-in-Variant : goal.returns-in_ok-behind_colons-in-Variant
returns-in_ok-behind_colons-in-Variant c =
    let segment = c.in-Variant in
    let seen = ap (λ s. after (segment_text (segment_of s)) c.args.text.now) segment.is in
    let some = behind_colons segment.field.now segment.variant.now c.args.text.now
    c.in_ok-behind_field-in-Variant.behind_field.now
    c.in_ok-behind_colons-in-Variant.behind_colons.now c.in_ok-behind_field-in-Variant.ensures
    c.in_ok-behind_colons-in-Variant.ensures in
    c.behind-in-Variant-3.ensures ∙ some ∙ sym seen
