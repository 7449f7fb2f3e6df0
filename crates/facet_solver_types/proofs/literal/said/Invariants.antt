use Rattle.std.proofs.Common.{◌≡◌, ◌++◌, length, encode_utf8_all, option_map}
use Rattle.std.specs.String.{string_bytes}
use Rattle.facet_solver_types.specs.Literals.{said, nothing}
use Rattle.facet_solver_types.proofs.literal.said.Given as goal

-- the text, and what is left says, is what all letters say
abbrev pub invariant-loop-letter : goal.invariant-loop-letter
invariant-loop-letter l =
    option_map (λ cs. string_bytes l.text ++ encode_utf8_all cs) (said nothing l.rest)
    ≡ option_map encode_utf8_all (said nothing l.letters)

abbrev pub decreases-loop-letter : goal.decreases-loop-letter
decreases-loop-letter l = length l.rest
