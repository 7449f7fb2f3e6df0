-- Where the walk of one choice stands, and what was chosen there.
use Rattle.std.specs.Prelude.{List, [], ◌∷◌, ◌++◌, string_bytes}
use Rattle.facet_solver_shape.specs.declared.shape.Shape.{Shape}
use Rattle.facet_solver_shape.specs.declared.shape.Field.{Field}
use Rattle.facet_solver_shape.specs.declared.shape.Variant.{Variant}
use Rattle.facet_solver_shape.specs.Paths.{Segment, by_field, by_variant}
use Rattle.facet_solver.specs.declared.build.place.Chosen as code
use Rattle.facet_solver_shape.specs.declared.role.Target.{Target}

-- the segments from the root
abbrev pub Path : Type 0
Path = List Segment

-- where the fields of a root struct stand
abbrev pub at_root : Path
at_root = []

-- where the fields of a root enum's variant stand
abbrev pub at_root_variant : Variant → Path
at_root_variant v = by_variant [] (string_bytes v.name) ∷ []

-- a variant that is chosen for the enum of a flattened field
pub record Chosen : Type 0 where
  pub field : Field
  pub target : Target
  pub shape : Shape
  pub variant : Variant

-- a choice of a variant, wherever its parts lie
abbrev pub chosen_of : code.Chosen → Chosen
chosen_of chosen = record {
  field = chosen.field.now;
  target = chosen.target;
  shape = chosen.shape.now;
  variant = chosen.variant.now;
}

-- the variant chosen for a field with the target and the enum
abbrev pub choosing : Field → Target → Shape → Variant → Chosen
choosing f target s v = record { field = f; target = target; shape = s; variant = v }

-- the path of a field at a place, where the fields stand that it flattens
abbrev pub field_path : Path → Field → Path
field_path place f = place ++ by_field (string_bytes f.name) ∷ []

-- the path of a chosen variant's alternative, behind its field's, where the variant's fields stand
abbrev pub variant_path : Path → Chosen → Path
variant_path place chosen =
    field_path place chosen.field
    ++ by_variant (string_bytes chosen.field.name) (string_bytes chosen.variant.name) ∷ []
