-- Which choices of a reader fit an object by its names alone.
use Rattle.std.specs.Prelude.{ℕ, Any, List}
use Rattle.facet_solver_shape.specs.Catalogues.{Catalogue}
use Rattle.facet_solver_shape.specs.Names.{Name}
use Rattle.facet_solver.specs.schema.Schema.{SchemaView}
use Rattle.facet_solver_reader.specs.Choices.{Choice, Item}
use Rattle.facet_solver_reader.specs.Documents.{Member}
use Rattle.facet_solver_reader.specs.Known.{Chooses, HasKey, IsKnown, named}
use Rattle.facet_solver_reader.specs.Objects.{HasNamed}
use Rattle.facet_solver_reader.specs.Parts.{of_struct}
use Rattle.facet_solver_reader.specs.Types.{parts_of}
use Rattle.facet_solver_agreement.specs.Asked.{IsRequiredOf, asked_by_items}
use Rattle.facet_solver_agreement.specs.Kept.{IsOfChoice}

-- some choice of a root's parts has a member of the name
abbrev pub IsKnownName : Catalogue → ℕ → Name → Type 0
IsKnownName shapes root x = IsKnown (Chooses (parts_of shapes) (of_struct root)) (named x)

-- the items of a choice have each name of an object that some choice has, and each name that they
-- require is one of the object's
pub record FitsByNames (shapes : Catalogue) (root : ℕ) (ms : List Member) (items : List Item)
    : Type 0
  where
    pub has_known : (x : Name) → HasNamed ms x → IsKnownName shapes root x → HasKey items (named x)
    pub has_required : (x : Name) → Any (IsRequiredOf x) (asked_by_items items) → HasNamed ms x

-- some choice of a root's parts fits an object by its names
pub record SomeFits (shapes : Catalogue) (root : ℕ) (ms : List Member) : Type 0 where
  pub choice : Choice
  pub items : List Item
  pub chooses : Chooses (parts_of shapes) (of_struct root) choice items
  pub fits : FitsByNames shapes root ms items

-- the resolution at an index is that of a choice that fits an object by its names
pub record IsFitting (schema : SchemaView) (ms : List Member) (index : ℕ) : Type 0 where
  pub choice : Choice
  pub items : List Item
  pub is_of_choice : IsOfChoice schema index choice items
  pub fits : FitsByNames schema.build.catalogue schema.root ms items
