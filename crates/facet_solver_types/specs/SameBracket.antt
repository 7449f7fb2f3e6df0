-- Kinds of brackets.
use Rattle.std.specs.Prelude.{Bool, true, false}
use Rattle.facet_solver_types.specs.declared.token.Bracket.{Bracket}
use Rattle.facet_solver_types.specs.declared.token.Bracket.TheVariants.{Round, Square, Curly}

-- whether two brackets are of one kind
unfoldable pub same_bracket : Bracket → Bracket → Bool
same_bracket Round Round = true
same_bracket Square Square = true
same_bracket Curly Curly = true
same_bracket one other = false
