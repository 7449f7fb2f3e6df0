use Rattle.std.proofs.Common.{◌≡◌, ◌≤◌, ◌<◌, ◌^◌, length}
use Rattle.facet_solver_types.specs.Literals.{said, digits}
use Rattle.facet_solver_types.proofs.literal.escape.digits.Given as goal

-- what is left says what all say, behind at most 6 digits
abbrev pub invariant-loop-letter : goal.invariant-loop-letter
invariant-loop-letter l = record {
  same : said (digits l.count l.code) l.rest ≡ said (digits 0 0) l.letters;
  shorter : length l.rest ≤ length l.letters;
  few : l.count ≤ 6;
  small : l.code < 16 ^ l.count;
}

abbrev pub decreases-loop-letter : goal.decreases-loop-letter
decreases-loop-letter l = length l.rest
