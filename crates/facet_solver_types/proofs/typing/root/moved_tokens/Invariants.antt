use Rattle.std.proofs.Common.{◌≡◌, take}
use Rattle.facet_solver_types.specs.NamedRoots.{moved_tokens}
use Rattle.facet_solver_types.specs.Tokens.{tokens_view}
use Rattle.facet_solver_types.proofs.typing.root.moved_tokens.Given as goal

-- those so far
abbrev pub invariant-loop-token : goal.invariant-loop-token
invariant-loop-token l =
    tokens_view l.found.items ≡ moved_tokens l.base (tokens_view (take l.token-index l.tokens))
