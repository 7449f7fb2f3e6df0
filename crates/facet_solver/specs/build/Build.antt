-- What a build is given: a catalogue and its rules.
use Rattle.std.specs.Prelude.{ℕ, [], Option, slice_get, string_bytes}
use Rattle.std.specs.Option.{option_map_or, unwrap_or}
use Rattle.facet_solver_shape.specs.declared.shape.Shape.{Shape}
pub use Rattle.facet_solver_shape.specs.Catalogues.{Catalogue, kind_of, kind_at}
use Rattle.facet_solver_shape.specs.Names.{Name}
use Rattle.facet_solver.specs.declared.build.Build as code
use Rattle.facet_solver.specs.declared.build.format.Format.{Format}
use Rattle.facet_solver_shape.specs.Representation.{Repr, asked_view, repr_of_shape}

-- the type identifier of the shape at an index, and the empty one where there is none
abbrev pub type_identifier : Catalogue → ℕ → Name
type_identifier cat id = option_map_or (λ s. string_bytes s.type_identifier) (slice_get cat id) []

-- a catalogue, one representation for all flattened enums or else each enum's own, and the kind of
-- document
pub record Build : Type 0 where
  pub catalogue : Catalogue
  pub representation : Option Repr
  pub format : Format

-- a build of these parts
abbrev pub build_with : Catalogue → Option Repr → Format → Build
build_with cat repr format =
    record { catalogue = cat; representation = repr; format = format }

-- what the code's build goes by
abbrev pub build_of : code.Build → Build
build_of build = record {
  catalogue = build.shapes.now;
  representation = asked_view build.representation;
  format = build.format;
}

-- the representation of an enum: the one for all, or else its own
abbrev pub repr_for : Build → Shape → Repr
repr_for build s = unwrap_or build.representation (repr_of_shape s)
