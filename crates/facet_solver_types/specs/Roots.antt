-- The type as which documents are read, where none is named.
use Rattle.std.specs.Prelude.{ℕ, ◌+◌, ◌==◌, ◌&&◌, ◌||◌, not, if◌then◌else◌, Bool, true, false, List, [], ◌∷◌, filter, length, map, slice_get, Result, Ok, Err}
use Rattle.std.specs.List.{flat_map, list_any}
use Rattle.std.specs.Option.{option_map_or}
use Rattle.facet_solver_shape.specs.Names.{Name, name_eq}
use Rattle.facet_solver_types.specs.Declarations.{Parameter}
use Rattle.facet_solver_types.specs.declared.fault.Fault.{Fault}
use Rattle.facet_solver_types.specs.declared.fault.Fault.TheVariants.{At}
use Rattle.facet_solver_types.specs.declared.problem.Problem.TheVariants.{OfType}
use Rattle.facet_solver_types.specs.declared.type_problem.TypeProblem.TheVariants.{Underived, OwnImpl}
use Rattle.facet_solver_types.specs.Failures.{Failure, roots as several}
use Rattle.facet_solver_types.specs.Called.{by_name, called_among}
use Rattle.facet_solver_types.specs.Meant.{is_outside, namesakes}
use Rattle.facet_solver_types.specs.Mentions.{Mention}
use Rattle.facet_solver_types.specs.Modules.{is_of_stand_ins}
use Rattle.facet_solver_types.specs.Takings.{is_taking}
use Rattle.facet_solver_types.specs.TypeIds.{used_id}
use Rattle.facet_solver_types.specs.Understood.{Declaration, Declared, alias, home, elsewhere}
use Rattle.facet_solver_types.specs.UsedTypes.{use_types}
use Rattle.facet_solver_types.specs.Uses.{Use}

-- the names of parameters
abbrev pub parameter_names : List Parameter → List Name
parameter_names parameters = map (λ (p : Parameter). p.name.text) parameters

-- the use of the declaration at an index in which each parameter stands for itself
abbrev pub own_use : ℕ → Declaration → Use
own_use index d =
    let names = parameter_names d.parameters in
    record { index = index; id = used_id (by_name d) names; arguments = names }

-- likewise of declarations, the first of which has an index
abbrev pub own_uses_from : ℕ → List Declaration → List Use
own_uses_from index [] = []
own_uses_from index (declaration ∷ others) =
    own_use index declaration ∷ own_uses_from (index + 1) others

-- likewise of all declarations
abbrev pub own_uses : List Declaration → List Use
own_uses declarations = own_uses_from 0 declarations

-- the indices of the declarations of uses
abbrev pub indices : List Use → List ℕ
indices uses = map (λ (u : Use). u.index) uses

-- those of some declarations that stand in a block
abbrev pub those_inside : List Declaration → List ℕ → List ℕ
those_inside declarations indices = filter (λ index. not (is_outside declarations index)) indices

-- those of some indices that count as mentioned by the declaration at another: one in a block does
-- not count for those in none
abbrev pub counted : List Declaration → ℕ → List ℕ → List ℕ
counted declarations by indices =
    if is_outside declarations by then indices else those_inside declarations indices

-- the indices of the declarations that a use mentions, as far as it counts, where its types have no
-- fault
abbrev pub mentioned : List Declaration → Use → List ℕ
mentioned declarations used =
    counted declarations used.index (indices (use_types declarations used).uses)

-- the indices of the declarations that each of some uses mentions
abbrev pub links : List Declaration → List Use → List (List ℕ)
links declarations uses = map (mentioned declarations) uses

-- whether an index is among some
abbrev pub is_among : List ℕ → ℕ → Bool
is_among indices index = list_any (λ other. other == index) indices

-- whether the declaration at an index is mentioned by one of those from another index on, not itself
abbrev pub is_mentioned_from : ℕ → List (List ℕ) → ℕ → Bool
is_mentioned_from other [] index = false
is_mentioned_from other (found ∷ links) index =
    (not (other == index) && is_among found index) || is_mentioned_from (other + 1) links index

-- whether the declaration at an index is mentioned by another
abbrev pub is_mentioned : List (List ℕ) → ℕ → Bool
is_mentioned links index = is_mentioned_from 0 links index

-- whether a fault says that a type is not read
abbrev pub is_unread : Fault → Bool
is_unread (At offset (OfType Underived)) = true
is_unread (At offset (OfType OwnImpl)) = true
is_unread fault = false

-- whether a declaration of these faults is passed over where no root is named
abbrev pub is_passed_over : List Fault → Bool
is_passed_over [] = false
is_passed_over (fault ∷ others) = is_unread fault

-- whether a struct or an enum is declared
abbrev pub declares_type : Declared → Bool
declares_type (alias written) = false
declares_type home = false
declares_type elsewhere = false
declares_type what = true

-- whether a declaration stands in for others: what a `use` takes does not
abbrev pub is_stand_in : Declaration → Bool
is_stand_in d = is_of_stand_ins d.site.module_name && not (is_taking d.declared)

-- the name of a declaration, if it is a stand-in
abbrev pub stand_in_name : Declaration → List Name
stand_in_name d = if is_stand_in d then d.name.text ∷ [] else []

-- the names of the stand-ins among declarations
abbrev pub stand_in_names : List Declaration → List Name
stand_in_names declarations = flat_map stand_in_name declarations

-- whether a name is one of some
abbrev pub is_one : List Name → Name → Bool
is_one names name = list_any (λ one. name_eq one name) names

-- whether a declaration may be a root, where stand-ins have these names: none of these names
abbrev pub may_be_root : List Name → Declaration → Bool
may_be_root names d =
    declares_type d.declared && length d.parameters == 0
    && not (is_passed_over d.faults || is_one names d.name.text)

-- whether a use stands by itself, where stand-ins have these names: its declaration may be a root,
-- and no other mentions it
abbrev pub stands_alone : List Declaration → List Name → List (List ℕ) → Use → Bool
stands_alone declarations names links used =
    option_map_or
    (λ (d : Declaration). may_be_root names d && not (is_mentioned links used.index))
    (slice_get declarations used.index) false

-- those of some uses that stand by themselves
abbrev pub roots : List Declaration → List Name → List (List ℕ) → List Use → List Use
roots declarations names links uses = filter (stands_alone declarations names links) uses

-- whether one of some uses is of a declaration in no block
abbrev pub has_outside : List Declaration → List Use → Bool
has_outside declarations uses =
    list_any (λ (u : Use). is_outside declarations u.index) uses

-- those of some uses that are of declarations in no block, or all where there is none
abbrev pub outside_or_all : List Declaration → List Use → List Use
outside_or_all declarations uses =
    if has_outside declarations uses
    then filter (λ (u : Use). is_outside declarations u.index) uses
    else uses

-- those of some uses that stand by themselves: those in no block, or else all
abbrev pub likely_roots : List Declaration → List Name → List (List ℕ) → List Use → List Use
likely_roots declarations names links uses =
    outside_or_all declarations (roots declarations names links uses)

-- the ids of uses
abbrev pub ids : List Use → List Name
ids uses = map (λ (u : Use). u.id) uses

-- the id of a use of a declaration, as that is called among all
abbrev pub id_among : List Declaration → Use → Declaration → Name
id_among declarations used d =
    let names = namesakes d.name.text declarations in
    used_id (called_among declarations names used.index d) used.arguments

-- the id of a use, as its declaration is called among all
abbrev pub called_id : List Declaration → Use → Name
called_id declarations used =
    option_map_or (λ (d : Declaration). id_among declarations used d)
    (slice_get declarations used.index) []

-- a use as a type, as its declaration is called among all
abbrev pub root_mention : List Declaration → Use → Mention
root_mention declarations used =
    let id = called_id declarations used in
    record { id = id; entries = []; uses = record used { id = id } ∷ [] }

-- the only one of some uses, as the type that it is
abbrev pub only : List Declaration → List Use → Result Mention Failure
only declarations (used ∷ []) = Ok (root_mention declarations used)
only declarations uses = Err (several (ids uses))

-- the only struct or enum without parameters that no other mentions: what stands in a block counts
-- only where there is no other
abbrev pub only_root : List Declaration → Result Mention Failure
only_root declarations =
    let uses = own_uses declarations in
    let names = stand_in_names declarations in
    only declarations (likely_roots declarations names (links declarations uses) uses)
