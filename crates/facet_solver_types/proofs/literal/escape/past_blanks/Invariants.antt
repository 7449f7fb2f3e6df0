use Rattle.std.proofs.Common.{◌≡◌, ◌≤◌, length}
use Rattle.facet_solver_types.specs.Literals.{said, blanks}
use Rattle.facet_solver_types.proofs.literal.escape.past_blanks.Given as goal

-- what is left says what all say
abbrev pub invariant-loop-letter : goal.invariant-loop-letter
invariant-loop-letter l = record {
  same : said blanks l.rest ≡ said blanks l.letters;
  shorter : length l.rest ≤ length l.letters;
}

abbrev pub decreases-loop-letter : goal.decreases-loop-letter
decreases-loop-letter l = length l.rest
