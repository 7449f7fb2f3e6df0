use Rattle.std.proofs.Common.{◌∙◌, ap, sym}
use Rattle.std.proofs.lemmas.List.{take_rest}
use Rattle.facet_solver_types.specs.Characters.{continues_name}
use Rattle.facet_solver_types.proofs.Words.{some_byte, word_len_more}
use Rattle.facet_solver_types.proofs.tokens.characters.word_len.Goals as goal

pub loop-at-preserved : goal.loop-at-preserved
loop-at-preserved c =
    let text = c.args.text.now in
    let goes = ap continues_name (sym (take_rest text c.loop-at.at)) ∙ sym c.continues_name.ensures ∙ c.if-not-continues_name.false in
    word_len_more text c.loop-at.at c.loop-at-test.true goes ∙ c.loop-at.invariant

pub returns-clause-some : goal.returns-clause-some
returns-clause-some c = some_byte c.args.text.now
