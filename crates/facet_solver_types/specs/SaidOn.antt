-- The attributes on a subject, as far as declarations take them.
use Rattle.std.specs.Prelude.{ℕ, Bool, true, false, if◌then◌else◌, List, [], ◌∷◌, Option, None, option_map}
use Rattle.std.specs.List.{list_any}
use Rattle.facet_solver_types.specs.declared.attribute.meaning.Meaning.TheVariants.{Opaque, Skip}
use Rattle.facet_solver_types.specs.declared.attribute.meaning.Misuse.TheVariants.{Unsupported}
use Rattle.facet_solver_types.specs.declared.attribute.meaning.Subject.{Subject}
use Rattle.facet_solver_types.specs.declared.attribute.refusal.Refusal.{Refusal}
use Rattle.facet_solver_types.specs.declared.attribute.refusal.Refusal.TheVariants.{Misused}
use Rattle.facet_solver_types.specs.declared.fault.Fault.{Fault}
use Rattle.facet_solver_types.specs.declared.fault.Fault.TheVariants.{At}
use Rattle.facet_solver_types.specs.declared.problem.Problem.TheVariants as problem
use Rattle.facet_solver_types.specs.AttributeLists.{attributes}
use Rattle.facet_solver_types.specs.Attributes.{Attribute}
use Rattle.facet_solver_types.specs.Gatherings.{Gathering, faulty, nothing, with_fault}
use Rattle.facet_solver_types.specs.Sought.{is_said, offset_of}
use Rattle.facet_solver_types.specs.Tokens.{Token}
use Rattle.facet_solver_types.specs.Values.{Value, of_type}

-- the fault of an attribute that stands at an offset and is refused
abbrev pub refused : ℕ → Refusal → Fault
refused offset refusal = At offset (problem.Attribute refusal)

-- whether a value is a type
abbrev pub is_type : Value → Bool
is_type (of_type passage) = true
is_type value = false

-- whether some attribute says a type, as a proxy does
abbrev pub has_type : List Attribute → Bool
has_type found = list_any (λ attribute. is_type attribute.value) found

-- where `opaque` stands without a proxy
abbrev pub lone_opaque : List Attribute → Option ℕ
lone_opaque found = if has_type found then None else offset_of Opaque found

-- the fault of `opaque` that stands without a proxy
abbrev pub opaque_fault : List Attribute → Option Fault
opaque_fault found =
    option_map (λ offset. refused offset (Misused Unsupported)) (lone_opaque found)

-- the same beside attributes, where nothing else is wrong with these
abbrev pub proxied : Gathering Attribute → Gathering Attribute
proxied found = with_fault found (opaque_fault found.values)

-- the attributes on a subject, with the faults of attributes
abbrev pub said_on : Subject → List Token → Gathering Attribute
said_on subject written = proxied (attributes subject written)

-- something else, unless there are faults
abbrev pub unless_faulty : {A : Type 0} → List Fault → Gathering A → Gathering A
unless_faulty [] later = later
unless_faulty (first ∷ others) later = faulty (first ∷ others)

-- What is read by attributes: nothing where `skip` is among them, whatever is wrong with others, or
-- else their faults alone, if they have some.
abbrev pub by_attributes
    : {A : Type 0} → Gathering Attribute → (List Attribute → Gathering A) → Gathering A
by_attributes found later =
    if is_said Skip found.values then nothing
    else unless_faulty found.faults (later found.values)
