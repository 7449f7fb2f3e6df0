-- What a solver keeps of what a reader reads.
use Rattle.std.specs.Prelude.{◌≡◌, ◌↔◌, ℕ, Any, Bool, Contains, List, Some, map, slice_get, true}
use Rattle.std.specs.FinSet as set
use Rattle.facet_solver_shape.specs.Catalogues.{Catalogue}
use Rattle.facet_solver_shape.specs.Keys.{Key, flat_key}
use Rattle.facet_solver_shape.specs.Names.{Name}
use Rattle.facet_solver_shape.specs.Resolved.{Resolved}
use Rattle.facet_solver.specs.build.Choice.{IsResolution}
use Rattle.facet_solver.specs.Resolutions.{has_field_named}
use Rattle.facet_solver.specs.schema.Schema.{SchemaView}
use Rattle.facet_solver.specs.solver.Report.{viable}
use Rattle.facet_solver.specs.solver.State.{new_solver}
use Rattle.facet_solver.specs.solver.Told.{HaveSameKeys, see_keys}
use Rattle.facet_solver_reader.specs.Choices.{Choice, Item, Reading, an_object}
use Rattle.facet_solver_reader.specs.Documents.{Member, Members, Tree, object, members}
use Rattle.facet_solver_reader.specs.Known.{Chooses, HasKey, named}
use Rattle.facet_solver_reader.specs.Parts.{of_struct}
use Rattle.facet_solver_reader.specs.Objects.{ReadsObject}
use Rattle.facet_solver_reader.specs.Readings.{ReadsValue}
use Rattle.facet_solver_reader.specs.Types.{parts_of, rules_of}
use Rattle.facet_solver_agreement.specs.Asked.{IsRequiredOf, asked_by_items}
use Rattle.facet_solver_agreement.specs.Indices.{indices_of}

-- an object is read by a choice of the root's parts, strict or not
abbrev pub ReadsAsRoot : Catalogue → ℕ → Bool → List Member → Choice → Type 0
ReadsAsRoot shapes root strict ms c =
    let rules = rules_of shapes strict in
    ReadsObject rules (ReadsValue rules) (of_struct root) ms c

-- the keys of an object's members: each name
abbrev pub keys_of : List Member → List Key
keys_of ms = map (λ m. flat_key m.name) ms

-- keys tell the names of an object's members, in whatever order and however often
abbrev pub TellNames : List Key → List Member → Type 0
TellNames keys ms = HaveSameKeys keys (keys_of ms)

-- a resolution has the names of the items of a choice: its fields' names are those of the members,
-- and its required names those of the members that have to be there
pub record HasNamesOf (items : List Item) (r : Resolved) : Type 0 where
  pub names : (x : Name) → (has_field_named x r ≡ true) ↔ HasKey items (named x)
  pub required : (x : Name)
      → (set.contains r.required_names x ≡ true) ↔ Any (IsRequiredOf x) (asked_by_items items)

-- the resolution at an index is that of a reader's choice: the one of its indices, with the names
-- of its items
pub record IsOfChoice (schema : SchemaView) (index : ℕ) (c : Choice) (items : List Item) : Type 0
  where
    pub chooses : Chooses (parts_of schema.build.catalogue) (of_struct schema.root) c items
    pub resolution : Resolved
    pub is_there : slice_get schema.resolutions index ≡ Some resolution
    pub resolved : IsResolution schema.build schema.root
        (indices_of schema.build.catalogue schema.root c) resolution
    pub has_names : HasNamesOf items resolution

-- of a new solver that was told some keys the resolution at an index is viable
abbrev pub IsViableAfter : SchemaView → List Key → ℕ → Type 0
IsViableAfter schema keys index = Contains (viable (see_keys keys (new_solver schema))) index

-- of a new solver that was told some keys the resolution of a reader's choice is viable
pub record KeepsChoice (schema : SchemaView) (keys : List Key) (c : Choice) : Type 0 where
  pub items : List Item
  pub index : ℕ
  pub is_of_choice : IsOfChoice schema index c items
  pub is_viable : IsViableAfter schema keys index

-- a document is an object that is read by a choice, and each solver that is told its names keeps
-- that choice
pub record KeepsReading (schema : SchemaView) (v : Tree) (r : Reading) : Type 0 where
  pub inner : Members
  pub choice : Choice
  pub is_object : v ≡ object inner
  pub is_choice : r ≡ an_object choice
  pub keeps : (keys : List Key) → TellNames keys (members inner) → KeepsChoice schema keys choice
