-- What a function gives that makes types with their shapes.
use Rattle.std.specs.Prelude.{◌≡◌, ◌≢◌, List, Result, Ok, Err}
use Rattle.facet_solver_shape.specs.Catalogues.{IsFirstFault}
use Rattle.facet_solver_shape.specs.declared.shape.Shape as shape
use Rattle.facet_solver_shape.specs.declared.shape.catalogue.CatalogueError.{CatalogueError}
use Rattle.facet_solver_types.specs.declared.failure.Failure as code
use Rattle.facet_solver_types.specs.declared.failure.Failure.TheVariants.{Text}
use Rattle.facet_solver_types.specs.declared.fault.Fault.TheVariants.{Catalogue, OutOfMemory}
use Rattle.facet_solver_types.specs.Failures.{Failure, failure_view, of_text}
use Rattle.facet_solver_types.specs.ShapeViews.{Shape, shapes_view}
use Rattle.facet_solver_types.specs.TypesViews.{Types}

-- shapes that say this are no catalogue, for this first reason
pub record IsRefused (shapes : List Shape) (refusal : CatalogueError) : Type 0 where
  pub list : List shape.Shape
  pub says : shapes_view list ≡ shapes
  pub first : IsFirstFault list refusal

-- an outcome that a failure tells: it is the outcome's own, or says why the shapes are no catalogue
abbrev pub IsTold : Result Types Failure → Failure → Type 0
IsTold (Ok types) (of_text (Catalogue refusal)) = IsRefused types.shapes refusal
IsTold (Ok types) failure = ⊥
IsTold (Err told) failure = told ≡ failure

-- the outcome is a result, or told by its failure, unless memory was refused
abbrev pub GivesTypes : Result Types Failure → Result Types code.Failure → Type 0
GivesTypes outcome (Ok types) = outcome ≡ Ok types
GivesTypes outcome (Err failure) =
    failure ≢ Text OutOfMemory → IsTold outcome (failure_view failure)
