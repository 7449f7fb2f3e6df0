-- Declarations, as their tokens.
use Rattle.std.specs.Prelude.{Bool, List, Option, option_map, map}
use Rattle.facet_solver_types.specs.declared.fault.Fault.{Fault}
use Rattle.facet_solver_types.specs.declared.item.AliasDeclaration.{AliasDeclaration}
use Rattle.facet_solver_types.specs.declared.item.Body as body
use Rattle.facet_solver_types.specs.declared.item.Body.TheVariants.{Unit, Tuple, Named}
use Rattle.facet_solver_types.specs.declared.item.FieldDeclaration.{FieldDeclaration}
use Rattle.facet_solver_types.specs.declared.item.EnumDeclaration.{EnumDeclaration}
use Rattle.facet_solver_types.specs.declared.item.FaultyDeclaration.{FaultyDeclaration}
use Rattle.facet_solver_types.specs.declared.item.Item as declared
use Rattle.facet_solver_types.specs.declared.item.Item.TheVariants as item
use Rattle.facet_solver_types.specs.declared.item.ModuleItem as module_item
use Rattle.facet_solver_types.specs.declared.item.Parameter as parameter
use Rattle.facet_solver_types.specs.declared.item.StructDeclaration.{StructDeclaration}
use Rattle.facet_solver_types.specs.declared.item.VariantDeclaration.{VariantDeclaration}
use Rattle.facet_solver_types.specs.Passages.{Passage, passage_view}
use Rattle.facet_solver_types.specs.Sites.{Site, site_view}
use Rattle.facet_solver_types.specs.Tokens.{Token, token_view, tokens_view}

-- a field: its attributes, its name if it has one, and its type
pub record Field : Type 0 where
  pub attributes : List Token
  pub name : Option Token
  pub written : Passage

-- what is seen of a field
abbrev pub field_view : FieldDeclaration → Field
field_view field = record {
  attributes = tokens_view field.attributes.now;
  name = option_map token_view field.name;
  written = passage_view field.written;
}

-- what is seen of fields
abbrev pub fields_view : List FieldDeclaration → List Field
fields_view fields = map field_view fields

-- the fields of a struct or a variant: none, in `( )` or in `{ }`
pub data Body : Type 0 where
  unit : Body
  tuple : List Field → Body
  named : List Field → Body

-- what is seen of a body
abbrev pub body_view : body.Body → Body
body_view Unit = unit
body_view (Tuple fields) = tuple (fields_view fields.items)
body_view (Named fields) = named (fields_view fields.items)

-- a variant: its attributes, its name and its fields
pub record Variant : Type 0 where
  pub attributes : List Token
  pub name : Token
  pub body : Body

-- what is seen of a variant
abbrev pub variant_view : VariantDeclaration → Variant
variant_view variant = record {
  attributes = tokens_view variant.attributes.now;
  name = token_view variant.name;
  body = body_view variant.body;
}

-- what is seen of variants
abbrev pub variants_view : List VariantDeclaration → List Variant
variants_view variants = map variant_view variants

-- a parameter: its name, and whether it stands for a value
pub record Parameter : Type 0 where
  pub name : Token
  pub is_const : Bool

-- what is seen of a parameter
abbrev pub parameter_view : parameter.Parameter → Parameter
parameter_view parameter =
    record { name = token_view parameter.name; is_const = parameter.is_const }

-- what is seen of parameters
abbrev pub parameters_view : List parameter.Parameter → List Parameter
parameters_view parameters = map parameter_view parameters

-- an item: a struct, an enum, an alias, one of these that cannot be read, the impl of a trait that
-- reads documents for a type, a `use` of some tokens, or another
pub data Item : Type 0 where
  struct : List Token → Token → List Parameter → Body → Item
  enum : List Token → Token → List Parameter → List Variant → Item
  alias : List Token → Token → List Parameter → Passage → Item
  faulty : List Token → Token → Fault → Item
  implements : Token → Item
  takes : List Token → Item
  other : Item

-- what is seen of a struct
abbrev pub struct_view : StructDeclaration → Item
struct_view s =
    struct (tokens_view s.attributes.now) (token_view s.name) (parameters_view s.parameters.items)
    (body_view s.body)

-- what is seen of an enum
abbrev pub enum_view : EnumDeclaration → Item
enum_view e =
    enum (tokens_view e.attributes.now) (token_view e.name) (parameters_view e.parameters.items)
    (variants_view e.variants.items)

-- what is seen of an alias
abbrev pub alias_view : AliasDeclaration → Item
alias_view a =
    alias (tokens_view a.attributes.now) (token_view a.name) (parameters_view a.parameters.items)
    (passage_view a.written)

-- what is seen of a declaration that cannot be read
abbrev pub faulty_view : FaultyDeclaration → Item
faulty_view f = faulty (tokens_view f.attributes.now) (token_view f.name) f.fault

-- what is seen of an item
abbrev pub item_view : declared.Item → Item
item_view (item.Struct s) = struct_view s
item_view (item.Enum e) = enum_view e
item_view (item.Alias a) = alias_view a
item_view (item.Faulty f) = faulty_view f
item_view (item.Impl name) = implements (token_view name)
item_view (item.Use tokens) = takes (tokens_view tokens.now)
item_view item.Other = other

-- an item, and where it stands
pub record ModuleItem : Type 0 where
  pub site : Site
  pub item : Item

-- what is seen of an item where it stands
abbrev pub module_item_view : module_item.ModuleItem → ModuleItem
module_item_view m = record { site = site_view m.site; item = item_view m.item }

-- what is seen of items
abbrev pub items_view : List module_item.ModuleItem → List ModuleItem
items_view items = map module_item_view items
