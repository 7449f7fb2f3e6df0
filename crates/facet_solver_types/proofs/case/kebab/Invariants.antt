use Rattle.std.proofs.Common.{◌≡◌, take}
use Rattle.std.specs.String.{string_bytes}
use Rattle.facet_solver_types.specs.Cases.{kebab}
use Rattle.facet_solver_types.proofs.case.kebab.Given as goal

-- the text is that of the letters so far
abbrev pub invariant-loop-letter : goal.invariant-loop-letter
invariant-loop-letter l = string_bytes l.text ≡ kebab (take l.letter-index l.letter-items)
