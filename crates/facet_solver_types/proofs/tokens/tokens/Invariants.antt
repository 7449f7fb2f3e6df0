use Rattle.std.proofs.Common.{◌≡◌, ◌+◌, length}
use denote.Text.{Utf8}
use denote.Shadow.{shadow}
use Rattle.facet_solver_types.specs.Tokens.{outcome, tokens}
use Rattle.facet_solver_types.proofs.tokens.tokens.Given as goal

abbrev pub invariant-loop-rest : goal.invariant-loop-rest
invariant-loop-rest l =
    shadow (Utf8 l.rest)
    × (tokens l.text ≡ outcome l.found.items l.opened.items l.offset l.rest)
    × (l.offset + length l.rest ≡ length l.text)

abbrev pub decreases-loop-rest : goal.decreases-loop-rest
decreases-loop-rest l = length l.rest
