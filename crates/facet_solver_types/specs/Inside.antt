-- What stands in brackets, and names.
use Rattle.std.specs.Prelude.{ℕ, List, [], ◌∷◌, drop, if◌then◌else◌, Result, Ok, Err}
use Rattle.facet_solver_types.specs.declared.fault.Fault.{Fault}
use Rattle.facet_solver_types.specs.declared.fault.Fault.TheVariants.{At}
use Rattle.facet_solver_types.specs.declared.grammar.run.Run.TheVariants.{Group}
use Rattle.facet_solver_types.specs.declared.problem.Expected.TheVariants.{Name}
use Rattle.facet_solver_types.specs.declared.problem.Problem.TheVariants.{Expected}
use Rattle.facet_solver_types.specs.FirstTokens.{is_name}
use Rattle.facet_solver_types.specs.Passages.{Passage, after, up_to}
use Rattle.facet_solver_types.specs.Runs.{run_len}
use Rattle.facet_solver_types.specs.Tokens.{Token}

-- what stands in the brackets that stand first
abbrev pub inside : Passage → Passage
inside passage = up_to (run_len Group (drop 1 passage.tokens)) (after 1 passage)

-- the name that stands first
abbrev pub name_of : List Token → ℕ → Result Token Fault
name_of [] end = Err (At end (Expected Name))
name_of (token ∷ tokens) end =
    if is_name token.kind then Ok token else Err (At token.offset (Expected Name))

-- the name that stands first in a passage
abbrev pub name_at : Passage → Result Token Fault
name_at passage = name_of passage.tokens passage.end
