-- When a choice of a reader and a choice of a schema are the same.
use Rattle.std.specs.Prelude.{◌≡◌, ℕ, List}
use Rattle.facet_solver_shape.specs.Catalogues.{Catalogue}
use Rattle.facet_solver.specs.build.Build.{Build}
use Rattle.facet_solver.specs.build.Choice.{Emits}
use Rattle.facet_solver.specs.build.Emissions.{Emission}
use Rattle.facet_solver_reader.specs.Choices.{Choice, Item}
use Rattle.facet_solver_reader.specs.Known.{Chooses}
use Rattle.facet_solver_reader.specs.Parts.{of_struct}
use Rattle.facet_solver_reader.specs.Types.{parts_of}
use Rattle.facet_solver_agreement.specs.Asked.{asked_by_walk, asked_of_schema}
use Rattle.facet_solver_agreement.specs.Indices.{indices_of}

-- the indices of a reader's choice are a choice of the schema. Its walk asks the names that the
-- items ask, in the same order and required alike
pub record IsWalkedAs (build : Build) (root : ℕ) (c : Choice) (items : List Item) : Type 0 where
  pub emissions : List Emission
  pub emitted : Emits build root (indices_of build.catalogue root c) emissions
  pub same : asked_by_walk emissions ≡ asked_of_schema build.catalogue items

-- the choice of a schema is that of a choice of the root's parts. Its items ask the names that the
-- walk asks, in the same order and required alike
pub record IsChosenAs (shapes : Catalogue) (root : ℕ) (choice : List ℕ) (es : List Emission)
    : Type 0
  where
    pub readers : Choice
    pub items : List Item
    pub chooses : Chooses (parts_of shapes) (of_struct root) readers items
    pub indices : indices_of shapes root readers ≡ choice
    pub same : asked_of_schema shapes items ≡ asked_by_walk es
