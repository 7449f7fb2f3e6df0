use Rattle.std.proofs.Common.{◌≡◌, ◌+◌, drop}
use Rattle.facet_solver_types.specs.Characters.{word_len}
use Rattle.facet_solver_types.proofs.tokens.characters.word_len.Given as goal

abbrev pub invariant-loop-at : goal.invariant-loop-at
invariant-loop-at l = l.at + word_len (drop l.at l.text) ≡ word_len l.text
