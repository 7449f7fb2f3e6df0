-- From a text to types with their shapes.
use Rattle.std.specs.Prelude.{◌≡◌, ℕ, List, length, Option, Result, Ok, Err, ⊤}
use Rattle.facet_solver_shape.specs.Names.{Name}
use Rattle.facet_solver_types.specs.declared.error.TypesError.{TypesError}
use Rattle.facet_solver_types.specs.declared.error.TypesError.TheVariants as error
use Rattle.facet_solver_types.specs.CataloguedTypes.{catalogue_of}
use Rattle.facet_solver_types.specs.DeclaredEntries.{type_entries}
use Rattle.facet_solver_types.specs.Declarations.{ModuleItem}
use Rattle.facet_solver_types.specs.Errors.{error_view, told_of}
use Rattle.facet_solver_types.specs.Failures.{Failure, unless_failure, unless_fault}
use Rattle.facet_solver_types.specs.GivenTypes.{IsTold}
use Rattle.facet_solver_types.specs.Items.{items}
use Rattle.facet_solver_types.specs.Mentions.{Mention}
use Rattle.facet_solver_types.specs.NamedRoots.{root_type}
use Rattle.facet_solver_types.specs.Passages.{Passage}
use Rattle.facet_solver_types.specs.ReadItems.{declarations}
use Rattle.facet_solver_types.specs.Tokens.{tokens}
use Rattle.facet_solver_types.specs.TypesViews.{Types}
use Rattle.facet_solver_types.specs.Understood.{Declaration}

-- the types that a root needs among declarations
abbrev pub rooted_types : List Declaration → Mention → Result Types Failure
rooted_types declarations root =
    unless_failure (type_entries declarations root.uses root.entries) (λ entries.
    catalogue_of declarations entries root.id)

-- the types that a root needs, which is one of declarations or is named behind so many bytes
abbrev pub declared_types : ℕ → Option Name → List Declaration → Result Types Failure
declared_types base root declarations =
    unless_failure (root_type declarations base root) (rooted_types declarations)

-- the types that a root needs of those that items declare
abbrev pub item_types : ℕ → Option Name → List ModuleItem → Result Types Failure
item_types base root items = declared_types base root (declarations items)

-- the types that a root needs of those that tokens declare
abbrev pub token_types : ℕ → Option Name → Passage → Result Types Failure
token_types base root passage = unless_fault (items passage) (item_types base root)

-- the types that a root needs of those that a text declares
abbrev pub types : List ℕ → Option Name → Result Types Failure
types text root =
    unless_fault (tokens text) (λ tokens.
    token_types (length text) root (record { tokens = tokens; end = length text }))

-- an error tells why a text has no types, or not those of a root
pub record IsExplained (text : List ℕ) (root : Option Name) (error : TypesError) : Type 0 where
  pub failure : Failure
  pub of_outcome : IsTold (types text root) failure
  pub tells : error_view error ≡ told_of text root failure

-- it does, unless memory was refused
abbrev pub Explains : List ℕ → Option Name → TypesError → Type 0
Explains text root error.OutOfMemory = ⊤
Explains text root told = IsExplained text root told

-- the types of a text and a root, or an error that tells why there are none, unless memory was
-- refused
abbrev pub Parses : List ℕ → Option Name → Result Types TypesError → Type 0
Parses text root (Ok found) = types text root ≡ Ok found
Parses text root (Err told) = Explains text root told
