use Rattle.std.specs.Fmt.{HasWritten, IsPlainFormatter}
use Rattle.std.specs.List.{flat_map}
use Rattle.facet_solver_types.specs.PrintedTexts.{escaped}
use Rattle.facet_solver_types.proofs.display.text.write_letters.Given as goal

-- the letters so far are written
abbrev pub invariant-loop-letter : goal.invariant-loop-letter
invariant-loop-letter g l =
    IsPlainFormatter l.initial.f
    → HasWritten g.W.Write.write_str_gives l.initial.f (flat_map escaped l.yielded) l.f
