-- The uses of declarations that a root needs.
use Rattle.std.specs.Prelude.{ℕ, zero, suc, ◌+◌, ◌==◌, Bool, false, if◌then◌else◌, List, [], ◌∷◌, ◌++◌, filter, flat_map, length, Option, Some, None, slice_get, Result, Ok, Err}
use Rattle.std.specs.List.{fold, list_any, range_with_len}
use Rattle.std.specs.Option.{option_map_or}
use Rattle.facet_solver_shape.specs.Names.{Name, name_eq}
use Rattle.facet_solver_types.specs.declared.fault.Fault.{Fault}
use Rattle.facet_solver_types.specs.declared.fault.Fault.TheVariants.{At}
use Rattle.facet_solver_types.specs.declared.problem.Problem.TheVariants.{OfType}
use Rattle.facet_solver_types.specs.declared.type_problem.TypeProblem.TheVariants.{TooDeep}
use Rattle.facet_solver_types.specs.FieldTypes.{Groups, declared_types, no_groups}
use Rattle.facet_solver_types.specs.Scopes.{Scope}
use Rattle.facet_solver_types.specs.Understood.{Declaration}
use Rattle.facet_solver_types.specs.Uses.{Use}

-- where the types of a use stand
abbrev pub scope_of : List Declaration → Declaration → Use → Scope
scope_of declarations declaration used = record {
  declarations = declarations;
  site = declaration.site;
  this = Some used.id;
  parameters = declaration.parameters;
  arguments = used.arguments;
  begin = 0;
  is_root = false;
}

-- the types that a use mentions
abbrev pub use_types : List Declaration → Use → Groups
use_types declarations used =
    option_map_or
    (λ (d : Declaration). declared_types (scope_of declarations d used) d.declared)
    (slice_get declarations used.index) no_groups

-- whether one of some uses has this id
abbrev pub has_use : Name → List Use → Bool
has_use id uses = list_any (λ (u : Use). name_eq u.id id) uses

-- uses, and one more, where its id is new
abbrev pub with_use : List Use → Use → List Use
with_use found used = if has_use used.id found then found else found ++ used ∷ []

-- uses, and others whose ids are new
abbrev pub with_uses : List Use → List Use → List Use
with_uses found more = fold with_use found more

-- the fault where there are too many uses: the first that is one too many
abbrev pub too_many : List Declaration → Use → Fault
too_many declarations used =
    At (option_map_or (λ (d : Declaration). d.name.offset) (slice_get declarations used.index) 0)
    (OfType TooDeep)

-- what follows a use, or these where there is none
abbrev pub follows
    : Option Use → List Use → (Use → Result (List Use) Fault) → Result (List Use) Fault
follows None found rule = Ok found
follows (Some used) found rule = rule used

-- uses, with what is mentioned by those from a place on, of which there may be so many
unfoldable pub reached_from : List Declaration → ℕ → ℕ → List Use → Result (List Use) Fault
reached_from declarations zero at found =
    follows (slice_get found at) found (λ used. Err (too_many declarations used))
reached_from declarations (suc left) at found =
    follows (slice_get found at) found (λ used.
    reached_from declarations left (at + 1)
    (with_uses found (use_types declarations used).uses))

-- uses, and all that they mention, themselves or over others: 4,096 more than declarations at most
abbrev pub reached : List Declaration → List Use → Result (List Use) Fault
reached declarations uses = reached_from declarations (length declarations + 4096) 0 uses

-- the uses that some lead to, these first
abbrev pub all_uses : List Declaration → List Use → Result (List Use) Fault
all_uses declarations uses = reached declarations (with_uses [] uses)

-- the uses of the declaration at an index
abbrev pub uses_of : List Use → ℕ → List Use
uses_of uses index = filter (λ (u : Use). u.index == index) uses

-- uses of so many declarations in the order of the text, those of one as they stand
abbrev pub text_order : ℕ → List Use → List Use
text_order count uses = flat_map (uses_of uses) (range_with_len 0 count)
