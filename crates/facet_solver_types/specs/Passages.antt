-- Some tokens of a text, and where the token after them stands.
use Rattle.std.specs.Prelude.{ℕ, List, [], ◌∷◌, drop, take}
use Rattle.facet_solver_types.specs.declared.fault.Fault.{Fault}
use Rattle.facet_solver_types.specs.declared.fault.Fault.TheVariants.{At}
use Rattle.facet_solver_types.specs.declared.passage.Passage as declared
use Rattle.facet_solver_types.specs.declared.problem.Expected as problem
use Rattle.facet_solver_types.specs.declared.problem.Problem.TheVariants.{Expected}
use Rattle.facet_solver_types.specs.Tokens.{Token, tokens_view}

-- some tokens of a text, and where the token after them stands, or the end
pub record Passage : Type 0 where
  pub tokens : List Token
  pub end : ℕ

-- what is seen of a passage
abbrev pub passage_view : declared.Passage → Passage
passage_view passage = record { tokens = tokens_view passage.tokens.now; end = passage.end }

-- where the first of some tokens stands, or else what is after them
abbrev pub place_of : List Token → ℕ → ℕ
place_of [] end = end
place_of (token ∷ tokens) end = token.offset

-- where a passage begins, or the token after it
abbrev pub place : Passage → ℕ
place passage = place_of passage.tokens passage.end

-- a passage without its first tokens
abbrev pub after : ℕ → Passage → Passage
after len passage = record { tokens = drop len passage.tokens; end = passage.end }

-- the first tokens of a passage
abbrev pub up_to : ℕ → Passage → Passage
up_to len passage = record { tokens = take len passage.tokens; end = place (after len passage) }

-- the fault where something else stands first
abbrev pub unexpected : problem.Expected → Passage → Fault
unexpected expected passage = At (place passage) (Expected expected)
