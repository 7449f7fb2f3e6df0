use Rattle.std.proofs.Common.{◌≡◌, ◌++◌, take, IsAscii}
use Rattle.std.specs.List.{flat_map}
use Rattle.std.specs.String.{string_bytes}
use Rattle.facet_solver_types.specs.Cases.{small_apart}
use Rattle.facet_solver_types.proofs.case.snake.Given as goal

-- the text is ASCII, and has got the letters so far apart
abbrev pub invariant-loop-letter : goal.invariant-loop-letter
invariant-loop-letter l = record {
  ascii : IsAscii (string_bytes l.text);
  apart :
      string_bytes l.text
      ≡ string_bytes l.initial.text ++ flat_map small_apart (take l.letter-index l.rest);
}
