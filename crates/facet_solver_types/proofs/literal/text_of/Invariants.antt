use Rattle.std.proofs.Common.{◌≡◌, take, encode_utf8_all}
use Rattle.std.specs.String.{string_bytes}
use Rattle.facet_solver_types.proofs.literal.text_of.Given as goal

-- the text is that of the letters so far
abbrev pub invariant-loop-letter : goal.invariant-loop-letter
invariant-loop-letter l = string_bytes l.text ≡ encode_utf8_all (take l.letter-index l.letters)
