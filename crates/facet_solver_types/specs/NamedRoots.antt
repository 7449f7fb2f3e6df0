-- The type as which documents are read.
use Rattle.std.specs.Prelude.{ℕ, ◌+◌, true, List, [], length, map, Option, Some, None, Result, Ok, Err}
use Rattle.facet_solver_shape.specs.Names.{Name}
use Rattle.facet_solver_types.specs.declared.fault.Fault.{Fault}
use Rattle.facet_solver_types.specs.declared.fault.Fault.TheVariants.{At}
use Rattle.facet_solver_types.specs.Failures.{Failure, of_root}
use Rattle.facet_solver_types.specs.Mentions.{Mention, whole_type}
use Rattle.facet_solver_types.specs.Passages.{Passage}
use Rattle.facet_solver_types.specs.Pieces.{and_then}
use Rattle.facet_solver_types.specs.Roots.{only_root}
use Rattle.facet_solver_types.specs.Scopes.{Scope}
use Rattle.facet_solver_types.specs.Sites.{top}
use Rattle.facet_solver_types.specs.Tokens.{Token, tokens}
use Rattle.facet_solver_types.specs.Understood.{Declaration}

-- a fault behind so many bytes
abbrev pub moved_fault : ℕ → Fault → Fault
moved_fault base (At offset problem) = At (base + offset) problem
moved_fault base fault = fault

-- a token behind so many bytes
abbrev pub moved_token : ℕ → Token → Token
moved_token base token =
    record { offset = base + token.offset; kind = token.kind; text = token.text }

-- tokens behind so many bytes
abbrev pub moved_tokens : ℕ → List Token → List Token
moved_tokens base tokens = map (moved_token base) tokens

-- what is read, behind so many bytes
abbrev pub moved : ℕ → Result (List Token) Fault → Result (List Token) Fault
moved base (Ok tokens) = Ok (moved_tokens base tokens)
moved base (Err fault) = Err (moved_fault base fault)

-- the tokens of a root behind so many bytes
abbrev pub root_tokens : ℕ → Name → Result (List Token) Fault
root_tokens base root = moved base (tokens root)

-- where a root stands: it can name all declarations
abbrev pub root_scope : List Declaration → Scope
root_scope declarations = record {
  declarations = declarations;
  site = top;
  this = None;
  parameters = [];
  arguments = [];
  begin = 0;
  is_root = true;
}

-- the type that a passage names among declarations
abbrev pub passage_type : List Declaration → Passage → Result Mention Fault
passage_type declarations passage = whole_type (root_scope declarations) passage

-- the type that a root names among declarations, whose tokens stand behind so many bytes
abbrev pub named_root : List Declaration → ℕ → Name → Result Mention Fault
named_root declarations base root =
    and_then (root_tokens base root) (λ tokens.
    passage_type declarations (record { tokens = tokens; end = base + length root }))

-- a type, or the fault of a root
abbrev pub unless_root_fault : Result Mention Fault → Result Mention Failure
unless_root_fault (Ok mention) = Ok mention
unless_root_fault (Err fault) = Err (of_root fault)

-- the type as which documents are read: the one that a root names, whose tokens stand behind those
-- of a text of so many bytes; or else the only one that stands by itself
abbrev pub root_type : List Declaration → ℕ → Option Name → Result Mention Failure
root_type declarations base (Some root) = unless_root_fault (named_root declarations base root)
root_type declarations base None = only_root declarations
