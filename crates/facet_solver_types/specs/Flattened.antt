-- What the type of a flattened field is: without the pointers to it, and as what it is read.
use Rattle.std.specs.Prelude.{ℕ, zero, suc, ◌==◌, if◌then◌else◌, List, [], ◌∷◌, length, Option, Some, None, slice_get, Result, Err}
use Rattle.std.specs.Option.{option_map_or}
use Rattle.facet_solver_types.specs.Declarations.{Parameter, parameters_view}
use Rattle.facet_solver_types.specs.declared.fault.Fault.{Fault}
use Rattle.facet_solver_types.specs.declared.typing.flattened.Lead as code
use Rattle.facet_solver_types.specs.declared.typing.known.Applied.{Applied}
use Rattle.facet_solver_types.specs.declared.typing.known.Applied.TheVariants as made
use Rattle.facet_solver_types.specs.Layers as layers
use Rattle.facet_solver_types.specs.Layers.{Head, Layer, Part, layer_at, type_part, value_part}
use Rattle.facet_solver_types.specs.Mentions.{Mention, Rule, alias_scope, mention_of, mentions, nothing, with_mention}
use Rattle.facet_solver_types.specs.Passages.{Passage, passage_view, place}
use Rattle.facet_solver_types.specs.Pieces.{and_then}
use Rattle.facet_solver_types.specs.Scopes.{Scope, too_deep}
use Rattle.facet_solver_types.specs.Sites.{Site, site_view}
use Rattle.facet_solver_types.specs.Understood.{Declaration, Declared, Proxy, proxied}

-- what a flattened type leads to: the type that stands in it, an option of that, the type that an
-- alias in a module names with some parameters or that a declaration is read as, or nothing else
pub data Lead : Type 0 where
  inside : Passage → Lead
  option_of : Passage → Lead
  named : Site → List Parameter → Passage → Lead
  itself : Lead

-- what is seen of it
abbrev pub lead_view : code.Lead → Lead
lead_view (code.TheVariants.Inside passage) = inside (passage_view passage)
lead_view (code.TheVariants.Option passage) = option_of (passage_view passage)
lead_view (code.TheVariants.Named site parameters written) =
    named (site_view site) (parameters_view parameters.now) (passage_view written)
lead_view code.TheVariants.Itself = itself

-- the type that a part is, if it is one
abbrev pub type_in : Part → Option Passage
type_in (type_part passage) = Some passage
type_in (value_part tokens) = None

-- the type that stands in another alone, if one does
abbrev pub only_type : List Part → Option Passage
only_type (part ∷ []) = type_in part
only_type parts = None

-- what a type leads to by what it makes of the one in it
abbrev pub applied_lead : Applied → List Part → Lead
applied_lead made.Pointer parts = option_map_or inside (only_type parts) itself
applied_lead made.Option parts = option_map_or option_of (only_type parts) itself
applied_lead kind parts = itself

-- what a type leads to in which nothing stands
abbrev pub bare_lead : Lead → List Part → Lead
bare_lead lead [] = lead
bare_lead lead parts = itself

-- what is declared in a module leads to: the type that it is read as, if one attribute says it
abbrev pub said_lead : Site → Declared → Lead
said_lead site (proxied (proxy ∷ [])) = named site [] proxy.said
said_lead site declared = itself

-- what a declaration leads to that has no fault; one with some is looked at itself
abbrev pub declared_lead : Declaration → Lead
declared_lead d = if length d.faults == 0 then said_lead d.site d.declared else itself

-- what the declaration at an index leads to
abbrev pub lead_at : Scope → ℕ → Lead
lead_at scope index =
    option_map_or declared_lead (slice_get scope.declarations index) itself

-- what a type leads to that is so outside, and in which this stands
abbrev pub lead_by : Scope → Head → List Part → Lead
lead_by scope layers.same parts = option_map_or inside (only_type parts) itself
lead_by scope (layers.applied name kind) parts = applied_lead kind parts
lead_by scope (layers.alias site parameters written) parts =
    bare_lead (named site parameters written) parts
lead_by scope (layers.declared index called) parts = bare_lead (lead_at scope index) parts
lead_by scope head parts = itself

-- what a type leads to
abbrev pub lead_of : Scope → Layer → Lead
lead_of scope layer = lead_by scope layer.head layer.parts

-- an option, or what is like it outside, of a type
abbrev pub around : Scope → Head → Mention → Result Mention Fault
around scope head mention = mention_of scope head (with_mention nothing mention)

-- what a flattened type mentions that leads so, by a rule for the types that it leads to, and by
-- what it mentions itself
abbrev pub by_lead
    : Rule → Scope → Head → Result Mention Fault → Lead → Result Mention Fault
by_lead rule scope head own (inside passage) = rule scope passage
by_lead rule scope head own (option_of passage) = and_then (rule scope passage) (around scope head)
by_lead rule scope head own (named site parameters written) =
    rule (alias_scope scope site parameters []) written
by_lead rule scope head own itself = own

-- what a flattened type mentions, which may have so many levels
unfoldable pub members : ℕ → Scope → Passage → Result Mention Fault
members zero scope passage = Err (too_deep scope)
members (suc levels) scope passage =
    and_then (layer_at scope passage) (λ layer.
    by_lead (members levels) scope layer.head (mentions (suc levels) scope passage)
    (lead_of scope layer))

-- the types that the type of a flattened field mentions, in 127 levels
abbrev pub flattened_type : Scope → Passage → Result Mention Fault
flattened_type scope passage = members 127 (record scope { begin = place passage }) passage
