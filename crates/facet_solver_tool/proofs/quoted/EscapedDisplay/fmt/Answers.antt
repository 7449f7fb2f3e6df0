use Rattle.std.proofs.Common.{◌≡◌, ◌/◌, ◌%◌, ◌<◌, ◌^◌, ◌-◌, false, [], ◌∷◌, Some, option_map, codes, rules, ap, subst, ◌∙◌, arith}
use Rattle.std.proofs.Output.{has_written_of_eq}
use Rattle.std.proofs.lemmas.Fmt.{hex_byte}
use Rattle.std.specs.Fmt.{DisplaysOnOk, ◌++?◌, digit_glyph, format_spec, padded_integral, styled_digits_output}
use Rattle.facet_solver_tool.proofs.quoted.EscapedDisplay.fmt.Goals as goal

-- a control character by its number
pub returns-in_default-clause-writes : goal.returns-in_default-clause-writes
returns-in_default-clause-writes g c plain ok =
    let n = c.args.self.now.0 in
    let small : n < 256 = omega arith in
    let shown : styled_digits_output c.in_radix.result c.laid_out.result ≡ Some (digit_glyph false (n / 16) ∷ digit_glyph false (n % 16) ∷ []) =
    ap (styled_digits_output c.in_radix.result) c.laid_out.ensures
    ∙ ap (option_map (padded_integral (format_spec 32 0 4 2 (2 ^ 64 - 1)) false [])) c.in_radix.ensures
    ∙ ap Some (hex_byte false n small) in
    has_written_of_eq _ _ _ _ _ (search rules)
    (subst (λ o. DisplaysOnOk g.W.Write.write_str_gives c.args.f.now c.write.result o c.write.new.self)
    (ap (λ t. Some (codes "\\u00") ++? t) shown) c.write.ensures.writes plain ok)
