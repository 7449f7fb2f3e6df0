use Rattle.std.proofs.Common.{◌/◌, length, ◌∙◌, le-ltb, arith}
use Rattle.facet_solver.proofs.Words.{bit_is_set, not_set, has_members}
use Rattle.facet_solver.proofs.set.bits.is_set.Goals as goal

pub returns-then-word-words : goal.returns-then-word-words
returns-then-word-words c = c.is_bit_set.ensures ∙ bit_is_set c.args.words.now c.args.index ∙ has_members c.args.words.now c.args.index

pub returns-else-word-words : goal.returns-else-word-words
returns-else-word-words c =
    le-ltb (c.args.index / 64) (length c.args.words.now) (omega arith)
    ∙ not_set c.args.words.now c.args.index (omega arith)
    ∙ has_members c.args.words.now c.args.index
