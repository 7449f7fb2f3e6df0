-- All types that a root needs, by their ids.
use Rattle.std.specs.Prelude.{Vec, ◌==◌, Bool, if◌then◌else◌, List, [], ◌∷◌, ◌++◌, flat_map, length, map, Result, Ok, Err}
use Rattle.std.specs.List.{fold, list_any}
use Rattle.std.specs.String.{string_bytes}
use Rattle.std.specs.declared.alloc.Global.{Global}
use Rattle.std.specs.declared.string.String.{String}
use Rattle.facet_solver_shape.specs.Names.{Name, name_eq}
use Rattle.facet_solver_types.specs.Failures.{Failure, needed, unless_fault}
use Rattle.facet_solver_types.specs.Faults.{told}
use Rattle.facet_solver_types.specs.TypeEntries.{TypeEntry, declared}
use Rattle.facet_solver_types.specs.Understood.{Declaration}
use Rattle.facet_solver_types.specs.UsedTypes.{all_uses, text_order, use_types}
use Rattle.facet_solver_types.specs.UseFaults.{all_faults}
use Rattle.facet_solver_types.specs.Uses.{Use}

-- what is seen of lists of ids
abbrev pub types_view : List (Vec (String Global) Global) → List (List Name)
types_view types = map (λ ids. map string_bytes ids.items) types

-- the entry of a use, with the types that it mentions
abbrev pub use_entry : Use → List (List Name) → TypeEntry
use_entry used types = record { id = used.id; form = declared used.index types }

-- the entries of a use: its own, and those of the types that it mentions
abbrev pub use_entries : List Declaration → Use → List TypeEntry
use_entries declarations used =
    let groups = use_types declarations used in use_entry used groups.types ∷ groups.entries

-- the entries of uses, in their order; a type has one each time that it is mentioned
abbrev pub all_entries : List Declaration → List Use → List TypeEntry
all_entries declarations uses = flat_map (use_entries declarations) uses

-- whether one of some types has this id
abbrev pub has_id : Name → List TypeEntry → Bool
has_id id entries = list_any (λ entry. name_eq entry.id id) entries

-- types, and then one of another id
abbrev pub with_new : List TypeEntry → TypeEntry → List TypeEntry
with_new found entry = if has_id entry.id found then found else found ++ entry ∷ []

-- the first type of each id
abbrev pub distinct : List TypeEntry → List TypeEntry
distinct entries = fold with_new [] entries

-- the types of uses, and others behind them, each once
abbrev pub types_of : List Declaration → List Use → List TypeEntry → List TypeEntry
types_of declarations uses others = distinct (all_entries declarations uses ++ others)

-- the types of uses that have no fault, and others behind them, each once
abbrev pub checked : List Declaration → List Use → List TypeEntry → Result (List TypeEntry) Failure
checked declarations uses others =
    let faults = told (all_faults declarations uses) in
    if length faults == 0 then Ok (types_of declarations uses others) else Err (needed faults)

-- all types that a root needs, which has these uses and other types in it, each once
abbrev pub type_entries
    : List Declaration → List Use → List TypeEntry → Result (List TypeEntry) Failure
type_entries declarations uses others =
    unless_fault (all_uses declarations uses) (λ found.
    checked declarations (text_order (length declarations) found) others)
