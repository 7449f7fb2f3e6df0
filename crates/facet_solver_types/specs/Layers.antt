-- What a type is outside, with its name looked up, and what stands in it.
use Rattle.std.specs.Prelude.{ℕ, ◌+◌, Bool, true, false, ◌&&◌, ◌||◌, ◌==◌, not, if◌then◌else◌, List, [], ◌∷◌, length, map, take, codes, Option, Some, None, slice_get, Result, Ok, Err}
use Rattle.std.specs.Option.{option_map_or}
use Rattle.facet_solver_shape.specs.Names.{Name}
use Rattle.facet_solver_shape.specs.declared.shape.ScalarType.{ScalarType}
use Rattle.facet_solver_shape.specs.declared.shape.ScalarType.TheVariants as scalars
use Rattle.facet_solver_types.specs.Declarations.{Parameter, parameters_view}
use Rattle.facet_solver_types.specs.declared.fault.Fault.{Fault}
use Rattle.facet_solver_types.specs.declared.fault.Fault.TheVariants.{At}
use Rattle.facet_solver_types.specs.declared.attribute.meaning.Misuse.TheVariants.{Unsupported}
use Rattle.facet_solver_types.specs.declared.attribute.refusal.Refusal.TheVariants.{Misused}
use Rattle.facet_solver_types.specs.declared.problem.Problem.TheVariants.{Attribute, OfType}
use Rattle.facet_solver_types.specs.declared.type_problem.TypeProblem.{TypeProblem}
use Rattle.facet_solver_types.specs.declared.type_problem.TypeProblem.TheVariants.{Unknown, Takes, Twice}
use Rattle.facet_solver_types.specs.declared.typing.known.Applied.{Applied}
use Rattle.facet_solver_types.specs.declared.typing.known.Known.{Known}
use Rattle.facet_solver_types.specs.declared.typing.known.Known.TheVariants as known
use Rattle.facet_solver_types.specs.declared.typing.layer.Head as code_head
use Rattle.facet_solver_types.specs.declared.typing.layer.Layer as code
use Rattle.facet_solver_types.specs.declared.typing.layer.Part as code_part
use Rattle.facet_solver_types.specs.Called.{Called, called_among, called_view}
use Rattle.facet_solver_types.specs.KnownTypes.{arity_of, known_type}
use Rattle.facet_solver_types.specs.Meant.{is_here, meant, namesakes}
use Rattle.facet_solver_types.specs.Modules.{is_of_stand_ins}
use Rattle.facet_solver_types.specs.Origins.{Origin, beside, known as to_known}
use Rattle.facet_solver_types.specs.Paired.{paired}
use Rattle.facet_solver_types.specs.Passages.{Passage, passage_view, place}
use Rattle.facet_solver_types.specs.Pieces.{and_then}
use Rattle.facet_solver_types.specs.Scopes.{Scope, bound_id}
use Rattle.facet_solver_types.specs.Sites.{Site, site_view}
use Rattle.facet_solver_types.specs.declared.standard.Standard.{Standard}
use Rattle.facet_solver_types.specs.Standards.{count_of}
use Rattle.facet_solver_types.specs.Takings.{deciding, has_elsewhere, has_taking, those_declared}
use Rattle.facet_solver_types.specs.Tokens.{Token, tokens_view}
use Rattle.facet_solver_types.specs.Understood.{Declaration, Declared, alias as declares_alias, unread}
use Rattle.facet_solver_types.specs.WrittenTypes.{NamedType, Written, is_str, written_type, unit, enclosed, tuple as tuple_of, slice as slice_of, array as array_of, text, bytes, this, named}

-- what a type is outside: the one in it, one by its id, what the declaration at an index declares,
-- which is called so, what an alias that stands somewhere names with some parameters, a scalar, a
-- dynamic value, what a name makes of those in it, a type of std by its name, an array with its
-- length, a slice or a tuple
pub data Head : Type 0 where
  same : Head
  bound : Name → Head
  declared : ℕ → Called → Head
  alias : Site → List Parameter → Passage → Head
  scalar : Name → ScalarType → Head
  dynamic : Name → Head
  applied : Name → Applied → Head
  standard : Name → Standard → Head
  array : List Token → Head
  slice : Head
  tuple : Head

-- what stands in a type: a type, or the tokens of a value
pub data Part : Type 0 where
  type_part : Passage → Part
  value_part : List Token → Part

-- what a type is outside, and what stands in it
pub record Layer : Type 0 where
  pub head : Head
  pub parts : List Part

-- what is seen of what a type is outside
abbrev pub head_view : code_head.Head → Head
head_view code_head.TheVariants.Same = same
head_view (code_head.TheVariants.Bound id) = bound id.now
head_view (code_head.TheVariants.Declared index called) = declared index (called_view called)
head_view (code_head.TheVariants.Alias site parameters written) =
    alias (site_view site) (parameters_view parameters.now) (passage_view written)
head_view (code_head.TheVariants.Scalar name kind) = scalar name.now kind
head_view (code_head.TheVariants.Dynamic name) = dynamic name.now
head_view (code_head.TheVariants.Applied name kind) = applied name.now kind
head_view (code_head.TheVariants.Standard name kind) = standard name.now kind
head_view (code_head.TheVariants.Array len) = array (tokens_view len.now)
head_view code_head.TheVariants.Slice = slice
head_view code_head.TheVariants.Tuple = tuple

-- what is seen of what stands in a type
abbrev pub part_view : code_part.Part → Part
part_view (code_part.TheVariants.Type passage) = type_part (passage_view passage)
part_view (code_part.TheVariants.Value tokens) = value_part (tokens_view tokens.now)

-- what is seen of a layer
abbrev pub layer_view : code.Layer → Layer
layer_view layer =
    record { head = head_view layer.head; parts = map part_view layer.parts.items }

-- a type that has none in it
abbrev pub leaf : Head → Layer
leaf head = record { head = head; parts = [] }

-- a type that has one in it
abbrev pub around : Head → Passage → Layer
around head part = record { head = head; parts = type_part part ∷ [] }

-- a type that has these types in it
abbrev pub around_all : Head → List Passage → Layer
around_all head types = record { head = head; parts = map type_part types }

-- the fault where something is wrong with a type of a name
abbrev pub wrong : ℕ → TypeProblem → Fault
wrong offset problem = At offset (OfType problem)

-- the types that a name takes, which are so many
abbrev pub taken : ℕ → NamedType → Result (List Passage) Fault
taken count n =
    if length n.types == count then Ok n.types else Err (wrong n.name.offset (Takes count))

-- what stands for a parameter
abbrev pub part_of : Parameter → Passage → Part
part_of parameter passage =
    if parameter.is_const then value_part passage.tokens else type_part passage

-- what stands for parameters
abbrev pub parts_of : List Parameter → List Passage → List Part
parts_of parameters types = paired part_of parameters types

-- what a type is outside that a declaration at an index declares, which is called so
abbrev pub head_by : ℕ → Called → Declaration → Declared → Head
head_by index called d (declares_alias written) = alias d.site d.parameters written
head_by index called d what = declared index called

-- what a type is outside by the declaration at an index, where those at some have its name
abbrev pub declared_head : List Declaration → List ℕ → ℕ → Declaration → Head
declared_head declarations namesakes index d =
    head_by index (called_among declarations namesakes index d) d d.declared

-- what a name takes for these parameters
abbrev pub taken_parts : List Parameter → NamedType → Result (List Part) Fault
taken_parts parameters n =
    and_then (taken (length parameters) n) (λ types. Ok (parts_of parameters types))

-- whether nothing is declared that could be read
abbrev pub is_unread : Declared → Bool
is_unread unread = true
is_unread what = false

-- whether a declaration takes all types, which are passed over: a stand-in without parameters, and
-- one of which nothing could be read
abbrev pub takes_all : Declaration → Bool
takes_all d =
    is_unread d.declared || (is_of_stand_ins d.site.module_name && length d.parameters == 0)

-- what stands for the parameters of a declaration
abbrev pub declared_parts : Declaration → NamedType → Result (List Part) Fault
declared_parts d n = if takes_all d then Ok [] else taken_parts d.parameters n

-- a type by the declaration at an index, where those at some have its name
abbrev pub declared_layer
    : List Declaration → NamedType → List ℕ → ℕ → Declaration → Result Layer Fault
declared_layer declarations n namesakes index d =
    and_then (declared_parts d n)
    (λ parts. Ok (record { head = declared_head declarations namesakes index d; parts = parts }))

-- whether a `Cow` of these is known: of `str` alone
abbrev pub is_text : List Passage → Bool
is_text [] = false
is_text (passage ∷ others) = is_str passage.tokens && length others == 0

-- a type by a name without the hasher that may stand behind so many types
abbrev pub without_hasher : ℕ → NamedType → NamedType
without_hasher count n =
    if length n.types == count + 1 then record n { types = take count n.types } else n

-- what a name makes of the types that it takes
abbrev pub made_of : Applied → NamedType → Result Layer Fault
made_of kind n =
    and_then (taken (arity_of kind) n)
    (λ types. Ok (around_all (applied n.name.text kind) types))

-- an array of the first of two types, where the second stands for its length; a name that takes two
abbrev pub array_of_two : Token → List Passage → Result Layer Fault
array_of_two name (item ∷ len ∷ []) = Ok (around (array len.tokens) item)
array_of_two name types = Err (wrong name.offset (Takes 2))

-- whether a path leads into a crate whose types are known
abbrev pub is_to_known : Origin → Bool
is_to_known to_known = true
is_to_known origin = false

-- a type of std, unless its path leads elsewhere, where another type may have its name
abbrev pub standard_layer : NamedType → Standard → Result Layer Fault
standard_layer n kind =
    if is_here n.origin || is_to_known n.origin
    then and_then (taken (count_of kind) n)
    (λ types. Ok (around_all (standard n.name.text kind) types))
    else Err (wrong n.name.offset Unknown)

-- a type that needs no declaration
abbrev pub known_as : NamedType → Known → Result Layer Fault
known_as n (known.Scalar kind) =
    and_then (taken 0 n) (λ types. Ok (leaf (scalar n.name.text kind)))
known_as n known.Dynamic =
    and_then (taken 0 n) (λ types. Ok (leaf (dynamic n.name.text)))
known_as n known.Cow =
    if is_text n.types then Ok (leaf (scalar (codes "Cow<str>") scalars.CowStr))
    else Err (wrong n.name.offset Unknown)
known_as n known.Phantom =
    and_then (taken 1 n) (λ types. Ok (leaf (scalar (codes "()") scalars.Unit)))
known_as n known.ArrayVec = array_of_two n.name n.types
known_as n known.Wrapper = and_then (taken 1 n) (λ types. Ok (around_all same types))
known_as n (known.Hashed kind) = made_of kind (without_hasher (arity_of kind) n)
known_as n (known.Applied kind) = made_of kind n
known_as n (known.Standard kind) = standard_layer n kind

-- a type by a name that is known, or not
abbrev pub known_or_not : NamedType → Option Known → Result Layer Fault
known_or_not n (Some known) = known_as n known
known_or_not n None = Err (wrong n.name.offset Unknown)

-- a type by a name that is declared nowhere
abbrev pub undeclared : NamedType → Result Layer Fault
undeclared n = known_or_not n (known_type n.name.text)

-- a type by the declaration at an index, if there is one, where those at some have its name
abbrev pub layer_of_one
    : List Declaration → NamedType → List ℕ → ℕ → Option Declaration → Result Layer Fault
layer_of_one declarations n namesakes index (Some d) =
    declared_layer declarations n namesakes index d
layer_of_one declarations n namesakes index None = undeclared n

-- where the name of the declaration at an index stands
abbrev pub offset_at : List Declaration → ℕ → ℕ
offset_at declarations index =
    option_map_or (λ (d : Declaration). d.name.offset) (slice_get declarations index) 0

-- whether a path leads to the stand-ins alone
abbrev pub is_to_stand_ins : Origin → Bool
is_to_stand_ins (beside module_name) = is_of_stand_ins module_name
is_to_stand_ins origin = false

-- the fault where nothing stands in for code
abbrev pub unsaid : ℕ → Fault
unsaid offset = At offset (Attribute (Misused Unsupported))

-- a type by a name that is declared at some indices, and means none of these
abbrev pub none_meant : NamedType → List ℕ → Result Layer Fault
none_meant n namesakes =
    if is_to_stand_ins n.origin then Err (unsaid n.name.offset)
    else (if is_to_known n.origin || length namesakes == 0 then undeclared n
    else Err (wrong n.name.offset Unknown))

-- a type by a name that is declared at some indices, and means the declarations at others: one
abbrev pub layer_by : Scope → NamedType → List ℕ → List ℕ → Result Layer Fault
layer_by scope n namesakes [] = none_meant n namesakes
layer_by scope n namesakes (index ∷ []) =
    let declarations = scope.declarations in
    layer_of_one declarations n namesakes index (slice_get declarations index)
layer_by scope n namesakes (index ∷ other ∷ others) =
    Err (wrong (offset_at scope.declarations other) Twice)

-- a type by a name that a `use` takes, at these indices: unknown, or one that needs no declaration
abbrev pub taken_layer : Scope → NamedType → List ℕ → Result Layer Fault
taken_layer scope n takings =
    if has_elsewhere scope.declarations takings then Err (wrong n.name.offset Unknown)
    else undeclared n

-- a type by a name that stands at some indices, where a `use` takes it in some module
abbrev pub layer_beside : Scope → NamedType → List ℕ → Result Layer Fault
layer_beside scope n found =
    let own = those_declared scope.declarations found in
    let takings = deciding scope n.origin found own in
    if length takings == 0 then layer_by scope n own (meant scope n.origin own)
    else taken_layer scope n takings

-- a type by a name: of a declaration, or else of one that needs none
abbrev pub free_layer : Scope → NamedType → Result Layer Fault
free_layer scope n =
    let found = namesakes n.name.text scope.declarations in
    if has_taking scope.declarations found then layer_beside scope n found
    else layer_by scope n found (meant scope n.origin found)

-- the id for which a name alone stands as a parameter, if it does
abbrev pub alone_id : Scope → NamedType → Option Name
alone_id scope n =
    if is_here n.origin && length n.types == 0 then bound_id scope n.name.text else None

-- the type of an id, if there is one, or else another
abbrev pub bound_or : Option Name → Result Layer Fault → Result Layer Fault
bound_or (Some id) other = Ok (leaf (bound id))
bound_or None other = other

-- a type by a name: of a parameter, or else of one that has nothing to do with these
abbrev pub named_layer : Scope → NamedType → Result Layer Fault
named_layer scope n = bound_or (alone_id scope n) (free_layer scope n)

-- `Self`, which stands at an offset
abbrev pub this_layer : Option Name → ℕ → Result Layer Fault
this_layer id offset = bound_or id (Err (wrong offset Unknown))

-- what a written type is outside, which begins at an offset
abbrev pub layer_of : Scope → ℕ → Written → Result Layer Fault
layer_of scope offset unit = Ok (leaf (scalar (codes "()") scalars.Unit))
layer_of scope offset (enclosed held) = Ok (around same held)
layer_of scope offset (tuple_of types) = Ok (around_all tuple types)
layer_of scope offset (slice_of item) = Ok (around slice item)
layer_of scope offset (array_of item len) = Ok (around (array len) item)
layer_of scope offset text = Ok (leaf (scalar (codes "&str") scalars.Str))
layer_of scope offset bytes = Ok (leaf (scalar (codes "&[u8]") scalars.Str))
layer_of scope offset this = this_layer scope.this offset
layer_of scope offset (named n) = named_layer scope n

-- what a type is outside, and what stands in it
abbrev pub layer_at : Scope → Passage → Result Layer Fault
layer_at scope passage = and_then (written_type passage) (layer_of scope (place passage))
