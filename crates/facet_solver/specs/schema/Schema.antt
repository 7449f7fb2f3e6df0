-- What a schema says, and when it is that of its root.
use Rattle.std.specs.Prelude.{◌≡◌, ℕ, List, Option, length}
use Rattle.facet_solver_shape.specs.Resolved.{Resolved}
use Rattle.facet_solver_shape.specs.declared.representation.EnumRepr.{EnumRepr}
use Rattle.facet_solver.specs.declared.build.format.Format.{Format}
use Rattle.facet_solver.specs.declared.build.format.Format.TheVariants.{Flat}
use Rattle.facet_solver.specs.build.Build.{Build, build_with, Catalogue}
use Rattle.facet_solver.specs.build.Choice.{Enumerates}
use Rattle.facet_solver.specs.build.Count.{count_of_root}
use Rattle.facet_solver_shape.specs.Representation.{Repr, asked_view}

-- what the build went by, the root, and the resolutions
pub record SchemaView : Type 0 where
  pub build : Build
  pub root : ℕ
  pub resolutions : List Resolved

-- a build for documents whose keys are names
abbrev pub flat_build : Catalogue → Option Repr → Build
flat_build cat repr = build_with cat repr Flat

-- a schema of the root, made by the build: exactly one resolution for each choice, in order
pub record IsBuilt (build : Build) (root : ℕ) (schema : SchemaView) : Type 0 where
  pub made_by : schema.build ≡ build
  pub has_root : schema.root ≡ root
  pub enumerates : Enumerates build root schema.resolutions
  pub counted : length schema.resolutions ≡ count_of_root build root

-- a schema of its own root, made by its own build
abbrev pub IsOwnBuild : SchemaView → Type 0
IsOwnBuild schema = IsBuilt schema.build schema.root schema

-- what the parts of a schema say
abbrev pub schema_view : Catalogue → ℕ → Option EnumRepr → Format → List Resolved → SchemaView
schema_view cat root repr format resolutions = record {
  build = record { catalogue = cat; representation = asked_view repr; format = format };
  root = root;
  resolutions = resolutions;
}
