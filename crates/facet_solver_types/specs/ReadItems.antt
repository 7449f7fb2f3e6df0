-- The declarations of items, with what their attributes say.
use Rattle.std.specs.Prelude.{ℕ, Bool, false, if◌then◌else◌, List, [], ◌∷◌, ◌++◌, Option, Some, None, option_map, Result, Ok, Err, take, unwrap_or}
use Rattle.facet_solver_shape.specs.Names.{Name}
use Rattle.facet_solver_types.specs.declared.attribute.meaning.Meaning.TheVariants.{DenyUnknownFields}
use Rattle.facet_solver_types.specs.declared.attribute.meaning.Subject.TheVariants as subject
use Rattle.facet_solver_types.specs.declared.fault.Fault.{Fault}
use Rattle.facet_solver_types.specs.declared.fault.Fault.TheVariants.{At}
use Rattle.facet_solver_types.specs.declared.problem.Problem.TheVariants.{OfType}
use Rattle.facet_solver_types.specs.declared.type_problem.TypeProblem.{TypeProblem}
use Rattle.facet_solver_types.specs.Attributes.{Attribute}
use Rattle.facet_solver_types.specs.Conditions.{has_other_form}
use Rattle.facet_solver_types.specs.Declarations as items
use Rattle.facet_solver_types.specs.Declarations.{Body, Item, ModuleItem, Parameter, Variant}
use Rattle.facet_solver_types.specs.Derives.{has_derives, own_reading}
use Rattle.facet_solver_types.specs.Elsewhere.{elsewhere}
use Rattle.facet_solver_types.specs.Gathered.{kept}
use Rattle.facet_solver_types.specs.Gatherings.{Gathering}
use Rattle.facet_solver_types.specs.Passages.{Passage}
use Rattle.facet_solver_types.specs.Proxies.{proxies}
use Rattle.facet_solver_types.specs.ReadEnums.{read_enum}
use Rattle.facet_solver_types.specs.ReadStructs.{read_struct, subject_of}
use Rattle.facet_solver_types.specs.SaidOn.{said_on}
use Rattle.facet_solver_types.specs.Sites.{Site, top}
use Rattle.facet_solver_types.specs.Sought.{is_said}
use Rattle.facet_solver_types.specs.Stated.{Stated}
use Rattle.facet_solver_types.specs.Tokens.{Token}
use Rattle.facet_solver_types.specs.Understood.{Declaration, Declared, Proxy, alias, proxied, unread}

-- what is declared, with nothing wrong
abbrev pub stated : Declared → Stated
stated known = record { declared = known; faults = [] }

-- what is declared by proxies, if there are some, or their fault
abbrev pub proxied_by : Result (List Proxy) Fault → Option Stated
proxied_by (Ok []) = None
proxied_by (Ok (proxy ∷ others)) = Some (stated (proxied (proxy ∷ others)))
proxied_by (Err fault) = Some (record { declared = unread; faults = fault ∷ [] })

-- what a struct declares: where it is read as another type, its body isn't looked at
abbrev pub struct_by : List Attribute → Body → Stated
struct_by found body = unwrap_or (proxied_by (proxies found)) (read_struct found body)

-- what an enum declares, likewise
abbrev pub enum_by : List Attribute → List Variant → Stated
enum_by found variants = unwrap_or (proxied_by (proxies found)) (read_enum found variants)

-- the declaration of a name and parameters, with attributes and their faults
abbrev pub declaration_of : Token → List Parameter → Gathering Attribute → Stated → Declaration
declaration_of name parameters found known = record {
  site = top;
  name = name;
  parameters = parameters;
  has_other_forms = false;
  denies_unknown = is_said DenyUnknownFields found.values;
  faults = found.faults ++ known.faults;
  declared = known.declared;
}

-- the declaration of a name that isn't read, since something is wrong with it
abbrev pub unread_declaration : Token → Fault → Declaration
unread_declaration name fault = record {
  site = top;
  name = name;
  parameters = [];
  has_other_forms = false;
  denies_unknown = false;
  faults = fault ∷ [];
  declared = unread;
}

-- the same, since it isn't read as it is declared
abbrev pub read_otherwise : Token → TypeProblem → Declaration
read_otherwise name problem = unread_declaration name (At name.offset (OfType problem))

-- the declaration of a struct with attributes and their faults
abbrev pub struct_with : Token → List Parameter → Body → Gathering Attribute → Declaration
struct_with name parameters body found =
    declaration_of name parameters found (struct_by found.values body)

-- the declaration of a struct, unless it isn't read as it is declared
abbrev pub struct_declaration
    : Option TypeProblem → List Token → Token → List Parameter → Body → Declaration
struct_declaration (Some problem) attributes name parameters body = read_otherwise name problem
struct_declaration None attributes name parameters body =
    struct_with name parameters body (said_on (subject_of body) attributes)

-- the declaration of an enum with attributes and their faults
abbrev pub enum_with : Token → List Parameter → List Variant → Gathering Attribute → Declaration
enum_with name parameters variants found =
    declaration_of name parameters found (enum_by found.values variants)

-- the declaration of an enum, unless it isn't read as it is declared
abbrev pub enum_declaration
    : Option TypeProblem → List Token → Token → List Parameter → List Variant → Declaration
enum_declaration (Some problem) attributes name parameters variants = read_otherwise name problem
enum_declaration None attributes name parameters variants =
    enum_with name parameters variants (said_on subject.Enum attributes)

-- the declaration of an alias, which has no attributes that say anything
abbrev pub alias_declaration : Token → List Parameter → Passage → Declaration
alias_declaration name parameters written = record {
  site = top;
  name = name;
  parameters = parameters;
  has_other_forms = false;
  denies_unknown = false;
  faults = [];
  declared = alias written;
}

-- the declaration of an item of a module, as if it stood nowhere, if it declares something, among
-- items of which some derive how they are read, or none
abbrev pub declaration_of_item
    : List ModuleItem → Bool → Name → Item → Option Declaration
declaration_of_item all has_derives module_name (items.struct attributes name parameters body) =
    Some (struct_declaration (own_reading all has_derives module_name attributes name.text) attributes
    name parameters body)
declaration_of_item all has_derives module_name (items.enum attributes name parameters variants) =
    Some (enum_declaration (own_reading all has_derives module_name attributes name.text) attributes
    name parameters variants)
declaration_of_item all has_derives module_name (items.alias attributes name parameters written) =
    Some (alias_declaration name parameters written)
declaration_of_item all has_derives module_name (items.faulty attributes name fault) =
    Some (unread_declaration name fault)
declaration_of_item all has_derives module_name (items.implements name) = None
declaration_of_item all has_derives module_name (items.takes tokens) = None
declaration_of_item all has_derives module_name items.other = None

-- a declaration, which stands so, and is one of some that are one under different conditions, or
-- isn't
abbrev pub at_site : Site → Bool → Declaration → Declaration
at_site site has_other_forms d = record d { site = site; has_other_forms = has_other_forms }

-- the declaration of an item where it stands, if it declares something
abbrev pub declaration : List ModuleItem → Bool → ModuleItem → Option Declaration
declaration all has_derives m =
    option_map (at_site m.site (has_other_form all m))
    (declaration_of_item all has_derives m.site.module_name m.item)

-- the same of an item at an index, unless one before it is what it is under another condition
abbrev pub declaration_at : List ModuleItem → Bool → ℕ → ModuleItem → Option Declaration
declaration_at all has_derives index m =
    if has_other_form (take index all) m then None else declaration all has_derives m

-- what items declare, in order: of what is one under different conditions the first
abbrev pub own_declarations : List ModuleItem → List Declaration
own_declarations all = kept (declaration_at all (has_derives all)) 0 all

-- the declarations of items, in order, and behind them what says which names a `use` takes
abbrev pub declarations : List ModuleItem → List Declaration
declarations all = let own = own_declarations all in own ++ elsewhere all own
