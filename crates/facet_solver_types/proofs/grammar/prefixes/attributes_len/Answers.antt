use Rattle.std.proofs.Common.{◌≡◌, true, false, drop, sym, ap, ◌∙◌, arith, length-drop}
use Rattle.std.proofs.lemmas.List.{drop-drop}
use Rattle.facet_solver_types.specs.Prefixes.{attribute_len, attributes_len, begins_attribute}
use Rattle.facet_solver_types.specs.Tokens.{tokens_view}
use Rattle.facet_solver_types.proofs.Attributes.{attribute_more, attribute_none}
use Rattle.facet_solver_types.proofs.Views.{rest_view, view_len}
use Rattle.facet_solver_types.proofs.grammar.prefixes.attributes_len.Goals as goal

pub loop-len-preserved : goal.loop-len-preserved
loop-len-preserved c =
    let l = c.loop-len in
    let inner = c.args.inner in
    let ts = tokens_view c.args.tokens.now in
    let left = drop l.len ts in
    let view = rest_view c.args.tokens.now l.len in
    let begins : begins_attribute inner left ≡ true = ap (begins_attribute inner) (sym view) ∙ sym c.loop-len-test.ensures.value in
    let is : c.attribute_len-len.result ≡ attribute_len inner left = c.attribute_len-len.ensures.value ∙ ap (attribute_len inner) view in
    let within = c.attribute_len-len.ensures.within in
    let len = length-drop l.len ts in
    let seen = view_len c.args.tokens.now in
    let known = l.invariant.1 in
    let more = attribute_more inner left begins (omega (arith, is, within.0)) (omega (arith, is, within.1, len, seen, known)) in
    let on = ap (λ n. attributes_len inner (drop n left)) (sym is) ∙ ap (attributes_len inner) (drop-drop c.attribute_len-len.result l.len ts) in
    (omega (arith, more, is, on, l.invariant.0), omega (arith, within.1, known))

pub returns-clause-value : goal.returns-clause-value
returns-clause-value c =
    let l = c.loop-len in
    let left = drop l.len (tokens_view c.args.tokens.now) in
    let begins : begins_attribute c.args.inner left ≡ false =
    ap (begins_attribute c.args.inner) (sym (rest_view c.args.tokens.now l.len)) ∙ sym c.loop-len-test.ensures.value in
    omega (arith, attribute_none c.args.inner left begins, l.invariant.0)
