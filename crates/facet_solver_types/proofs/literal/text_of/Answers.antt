use Rattle.facet_solver_types.proofs.Pieces.{letter_more}
use Rattle.facet_solver_types.proofs.literal.text_of.Goals as goal

pub loop-letter-preserved : goal.loop-letter-preserved
loop-letter-preserved c =
    letter_more c.args.letters.now c.loop-letter.letter-index _ _ _ c.loop-letter-test.true
    c.letter-item.is c.loop-letter.invariant c.in_ok-push.ensures.bytes
