use Rattle.std.proofs.Common.{◌≡◌, ◌++◌, drop}
use Rattle.std.specs.String.{string_bytes}
use Rattle.facet_solver_shape.specs.Names.{names_of}
use Rattle.facet_solver_tool.specs.Notes.{note_lines}
use Rattle.facet_solver_tool.proofs.notes.note_lines.Given as goal

-- the lines so far, and those of the others
abbrev pub invariant-loop-name : goal.invariant-loop-name
invariant-loop-name l =
    note_lines l.note (names_of l.names)
    ≡ string_bytes l.text ++ note_lines l.note (names_of (drop l.name-index l.names))
