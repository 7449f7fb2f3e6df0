-- Steps that come whatever is chosen.
use Rattle.std.specs.Prelude.{ℕ, Bool, true, false, not, List, count_by}
use Rattle.facet_solver_reader.specs.declared.part.Part as code

-- whether a part is a selection
abbrev pub is_selection : code.Part → Bool
is_selection (code.TheVariants.Member m) = false
is_selection (code.TheVariants.Selection s) = true
is_selection (code.TheVariants.CatchAll k) = false

-- how many parts are a step each: all but the selections
abbrev pub sure_steps : List code.Part → ℕ
sure_steps ps = count_by (λ p. not (is_selection p)) ps
