use Rattle.std.proofs.Common.{◌≡◌, ◌++◌, drop, IsAscii}
use Rattle.std.specs.String.{string_bytes}
use Rattle.facet_solver_types.specs.Cases.{letters_behind, pascal}
use Rattle.facet_solver_types.proofs.case.pascal.Given as goal

-- the text is ASCII, and what is left makes it whole
abbrev pub invariant-loop-letter : goal.invariant-loop-letter
invariant-loop-letter l = record {
  ascii : IsAscii (string_bytes l.text);
  whole :
      string_bytes l.text ++ letters_behind l.before (drop l.letter-index l.letter-items)
      ≡ pascal l.letter-items;
}
