-- The first type of each id.
use Rattle.std.specs.Prelude.{Bool, false, not, if◌then◌else◌, drop, List, [], ◌∷◌, ◌++◌}
use Rattle.facet_solver_types.specs.DeclaredEntries.{has_id}
use Rattle.facet_solver_types.specs.TypeEntries.{TypeEntry}

-- whether each of some types is the first of its id, where others stand before them
abbrev pub are_first_behind : List TypeEntry → List TypeEntry → List Bool
are_first_behind before [] = []
are_first_behind before (entry ∷ others) =
    not (has_id entry.id before) ∷ are_first_behind (before ++ entry ∷ []) others

-- whether each of some types is the first of its id
abbrev pub are_first : List TypeEntry → List Bool
are_first entries = are_first_behind [] entries

-- whether the first of some marks is set
abbrev pub sees_mark : List Bool → Bool
sees_mark [] = false
sees_mark (mark ∷ marks) = mark

-- those of some types that are marked
abbrev pub marked : List Bool → List TypeEntry → List TypeEntry
marked marks [] = []
marked marks (entry ∷ others) =
    (if sees_mark marks then entry ∷ [] else []) ++ marked (drop 1 marks) others
