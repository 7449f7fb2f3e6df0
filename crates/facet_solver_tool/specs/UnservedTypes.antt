-- Types of which a check tells that they are read otherwise than they say.
use Rattle.std.specs.Prelude.{ℕ, List, [], codes, if◌then◌else◌}
use Rattle.facet_solver_shape.specs.Names.{Name}
use Rattle.facet_solver_types.specs.TypesViews.{Types, conditional, denies_unknown, denying}
use Rattle.facet_solver_tool.specs.Notes.{note_lines}

-- the names of the types with `deny_unknown_fields`, where the root has none
abbrev pub unserved : Types → ℕ → List Name
unserved types id = if denies_unknown types.declared id then [] else denying types.declared

-- the lines of such types
abbrev pub unserved_lines : List Name → List ℕ
unserved_lines =
    note_lines (codes ": deny_unknown_fields counts on the root alone; --strict refuses unknown members in all")

-- the lines of the types that are declared once more under another `cfg`
abbrev pub conditional_lines : Types → List ℕ
conditional_lines types =
    note_lines (codes ": declared under more than one cfg; the first is taken")
    (conditional types.declared)
