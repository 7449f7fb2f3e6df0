-- All attributes of serde and facet that stand before something.
use Rattle.std.specs.Prelude.{ℕ, Bool, true, false, not, if◌then◌else◌, List, [], ◌∷◌, map, Option, Some, None, option_map, Result, Ok, Err}
use Rattle.std.specs.List.{list_any}
use Rattle.facet_solver_shape.specs.Names.{Name, name_eq}
use Rattle.facet_solver_types.specs.declared.attribute.Attribute as declared
use Rattle.facet_solver_types.specs.declared.attribute.meaning.Meaning.{Meaning}
use Rattle.facet_solver_types.specs.declared.attribute.meaning.Meaning.TheVariants.{Content, Tag}
use Rattle.facet_solver_types.specs.declared.attribute.meaning.Subject.{Subject}
use Rattle.facet_solver_types.specs.declared.fault.Fault.{Fault}
use Rattle.facet_solver_types.specs.declared.fault.Fault.TheVariants.{At}
use Rattle.facet_solver_types.specs.declared.attribute.refusal.Refusal.TheVariants as refusal
use Rattle.facet_solver_types.specs.declared.problem.Problem.TheVariants as problem
use Rattle.facet_solver_types.specs.AttributeEntries.{attribute_entries}
use Rattle.facet_solver_types.specs.AttributeTexts.{said_text, text_of}
use Rattle.facet_solver_types.specs.Attributes.{Attribute, attribute_of, attribute_view}
use Rattle.facet_solver_types.specs.Clashes.{clash}
use Rattle.facet_solver_types.specs.Entries.{Entry}
use Rattle.facet_solver_types.specs.Gatherings.{Gathering, all_gathered, faulty, told, with_fault}
use Rattle.facet_solver_types.specs.Pieces.{and_then}
use Rattle.facet_solver_types.specs.Tokens.{Token}
use Rattle.facet_solver_types.specs.Values.{Value, text}

-- what is seen of attributes
abbrev pub attributes_view : List declared.Attribute → List Attribute
attributes_view found = map attribute_view found

-- the text that a value says, if it says one
abbrev pub said_by_value : Value → Option Name
said_by_value (text token) = text_of token
said_by_value value = None

-- whether two texts are both there, and differ
abbrev pub differ : Option Name → Option Name → Bool
differ (Some one) (Some other) = not (name_eq one other)
differ one other = false

-- whether two attributes exclude each other
abbrev pub clashes : Attribute → Attribute → Bool
clashes one other =
    clash one.meaning other.meaning
    (differ (said_by_value one.value) (said_by_value other.value))

-- whether one of some attributes excludes another
abbrev pub has_clash : List Attribute → Attribute → Bool
has_clash found attribute = list_any (λ one. clashes one attribute) found

-- an attribute whose text, if it has one, is well formed
abbrev pub with_text : Attribute → Value → Result Attribute Fault
with_text attribute (text token) =
    and_then (said_text attribute.meaning token) (λ said. Ok attribute)
with_text attribute value = Ok attribute

-- an attribute that none of some others excludes
abbrev pub admitted : List Attribute → Attribute → Result Attribute Fault
admitted found attribute =
    if has_clash found attribute
    then Err (At attribute.offset (problem.Attribute refusal.Clashes)) else Ok attribute

-- the attribute that an entry is behind others
abbrev pub next_attribute : Subject → List Attribute → Entry → Result Attribute Fault
next_attribute subject found entry =
    and_then (attribute_of subject entry)
    (λ attribute. and_then (with_text attribute attribute.value) (admitted found))

-- the attribute that an entry is behind others, or its fault
abbrev pub entered : Subject → List Attribute → Entry → Gathering Attribute
entered subject found entry = told (next_attribute subject found entry)

-- the attributes that entries are, but those with a fault
abbrev pub attributes_of : Subject → List Entry → Gathering Attribute
attributes_of subject entries = all_gathered (entered subject) entries

-- whether a meaning is that of `tag`
abbrev pub is_tag : Meaning → Bool
is_tag Tag = true
is_tag meaning = false

-- whether a meaning is that of `content`
abbrev pub is_content : Meaning → Bool
is_content Content = true
is_content meaning = false

-- whether some attribute is `tag`
abbrev pub has_tag : List Attribute → Bool
has_tag found = list_any (λ attribute. is_tag attribute.meaning) found

-- where the first attribute stands that is `content`
abbrev pub content_offset : List Attribute → Option ℕ
content_offset [] = None
content_offset (attribute ∷ others) =
    if is_content attribute.meaning then Some attribute.offset else content_offset others

-- where `content` stands without `tag`
abbrev pub lone_content : List Attribute → Option ℕ
lone_content found = if has_tag found then None else content_offset found

-- the fault of `content` that stands without `tag`
abbrev pub content_fault : List Attribute → Option Fault
content_fault found =
    option_map (λ offset. At offset (problem.Attribute refusal.NoTag)) (lone_content found)

-- the same beside attributes, where nothing else is wrong with these
abbrev pub tagged : Gathering Attribute → Gathering Attribute
tagged found = with_fault found (content_fault found.values)

-- the attributes that entries are, or the fault of these
abbrev pub attributes_by : Subject → Result (List Entry) Fault → Gathering Attribute
attributes_by subject (Ok entries) = tagged (attributes_of subject entries)
attributes_by subject (Err fault) = faulty (fault ∷ [])

-- the attributes of serde and facet on a subject
abbrev pub attributes : Subject → List Token → Gathering Attribute
attributes subject written = attributes_by subject (attribute_entries written)
