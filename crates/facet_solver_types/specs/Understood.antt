-- Declarations, with what their attributes say. Types are still tokens.
use Rattle.std.specs.Prelude.{ℕ, Bool, List, Option, option_map, map}
use Rattle.std.specs.String.{string_bytes}
use Rattle.facet_solver_shape.specs.Names.{Name}
use Rattle.facet_solver_shape.specs.declared.shape.DomMark.{DomMark}
use Rattle.facet_solver_shape.specs.declared.shape.StructKind.{StructKind}
use Rattle.facet_solver_types.specs.declared.declaration.Declaration as declaration
use Rattle.facet_solver_types.specs.declared.declaration.Declared as declared
use Rattle.facet_solver_types.specs.declared.declaration.Declared.TheVariants.{Struct, Enum, Proxied, Alias, Home, Elsewhere, Unread}
use Rattle.facet_solver_types.specs.declared.declaration.DeclaredField as field
use Rattle.facet_solver_types.specs.declared.declaration.DeclaredVariant as variant
use Rattle.facet_solver_types.specs.declared.declaration.Proxy as declared_proxy
use Rattle.facet_solver_types.specs.declared.declaration.SaidType as said
use Rattle.facet_solver_types.specs.declared.declaration.SaidType.TheVariants.{Plain, Quoted}
use Rattle.facet_solver_types.specs.declared.fault.Fault.{Fault}
use Rattle.facet_solver_types.specs.Declarations.{Parameter, parameters_view}
use Rattle.facet_solver_types.specs.Passages.{Passage, passage_view}
use Rattle.facet_solver_types.specs.Sites.{Site, site_view}
use Rattle.facet_solver_types.specs.Tokens.{Token, token_view, tokens_view}

-- the tokens of a type that an attribute says
abbrev pub said_type_view : said.SaidType → Passage
said_type_view (Plain passage) = passage_view passage
said_type_view (Quoted tokens place) =
    record { tokens = tokens_view tokens.items; end = place }

-- a type as which something is read: where the attribute stands, and the type's tokens
pub record Proxy : Type 0 where
  pub offset : ℕ
  pub said : Passage

-- what is seen of a proxy
abbrev pub proxy_view : declared_proxy.Proxy → Proxy
proxy_view proxy = record { offset = proxy.offset; said = said_type_view proxy.said }

-- a field of a struct or a variant: its place, its name or number, its other name in a document,
-- where `flatten` stands if it does, its flags and mark, its type, and what it is read as instead
pub record DeclaredField : Type 0 where
  pub offset : ℕ
  pub name : Name
  pub rename : Option Name
  pub flattened : Option ℕ
  pub has_default : Bool
  pub metadata : Bool
  pub dom : DomMark
  pub written : Passage
  pub proxies : List Proxy

-- what is seen of a field
abbrev pub field_view : field.DeclaredField → DeclaredField
field_view f = record {
  offset = f.offset;
  name = string_bytes f.name;
  rename = option_map string_bytes f.rename;
  flattened = f.flattened;
  has_default = f.has_default;
  metadata = f.metadata;
  dom = f.dom;
  written = passage_view f.written;
  proxies = map proxy_view f.proxies.items;
}

-- a variant: its place, its name as written and in a document, and its fields
pub record DeclaredVariant : Type 0 where
  pub offset : ℕ
  pub written_name : Name
  pub name : Name
  pub kind : StructKind
  pub fields : List DeclaredField

-- what is seen of a variant
abbrev pub variant_view : variant.DeclaredVariant → DeclaredVariant
variant_view v = record {
  offset = v.offset;
  written_name = string_bytes v.written_name;
  name = string_bytes v.name;
  kind = v.kind;
  fields = map field_view v.fields.items;
}

-- how the variants of an enum are told: by a tag, with a content beside it, or by none
pub record Tagging : Type 0 where
  pub tag : Option Name
  pub content : Option Name
  pub untagged : Bool

-- what a declaration declares: a struct, maybe one that stands for its one field, that says so by
-- `transparent`, or that holds metadata; an enum; what is read as another type; an alias; nothing,
-- where a `use` takes the name from a crate whose types are known, or from elsewhere; or nothing
-- that could be read
pub data Declared : Type 0 where
  struct : StructKind → List DeclaredField → Bool → Bool → Bool → Declared
  enum : List DeclaredVariant → Tagging → Declared
  proxied : List Proxy → Declared
  alias : Passage → Declared
  home : Declared
  elsewhere : Declared
  unread : Declared

-- what is seen of what a declaration declares
abbrev pub declared_view : declared.Declared → Declared
declared_view (Struct kind fields is_transparent says_transparent is_container) =
    struct kind (map field_view fields.items) is_transparent says_transparent is_container
declared_view (Enum variants tag content untagged) =
    enum (map variant_view variants.items) (record {
      tag = option_map string_bytes tag;
      content = option_map string_bytes content;
      untagged = untagged;
    })
declared_view (Proxied proxies) = proxied (map proxy_view proxies.items)
declared_view (Alias passage) = alias (passage_view passage)
declared_view Home = home
declared_view Elsewhere = elsewhere
declared_view Unread = unread

-- a declaration of a type: where it stands, its name, its parameters, whether it is one of some that
-- are one under different conditions, whether it denies unknown members, what is wrong with its
-- attributes, fields and variants, and what it declares
pub record Declaration : Type 0 where
  pub site : Site
  pub name : Token
  pub parameters : List Parameter
  pub has_other_forms : Bool
  pub denies_unknown : Bool
  pub faults : List Fault
  pub declared : Declared

-- what is seen of a declaration
abbrev pub declaration_view : declaration.Declaration → Declaration
declaration_view d = record {
  site = site_view d.site;
  name = token_view d.name;
  parameters = parameters_view d.parameters.items;
  has_other_forms = d.has_other_forms;
  denies_unknown = d.denies_unknown;
  faults = d.faults.items;
  declared = declared_view d.declared;
}

-- what is seen of declarations
abbrev pub declarations_view : List declaration.Declaration → List Declaration
declarations_view declarations = map declaration_view declarations
