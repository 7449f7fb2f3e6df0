-- Types with their shapes.
use Rattle.std.specs.Prelude.{ℕ, ◌==◌, ◌&&◌, Bool, List, Option, filter, find, map, option_map}
use Rattle.std.specs.List.{list_any}
use Rattle.std.specs.String.{string_bytes}
use Rattle.facet_solver_shape.specs.Names.{Name, name_eq}
use Rattle.facet_solver_types.specs.declared.parsed.DeclaredType as declared
use Rattle.facet_solver_types.specs.ShapeViews.{Shape}

-- a struct or an enum: its name, the place of its shape, whether it is one of some that are one under
-- different conditions, and whether it denies unknown members
pub record DeclaredType : Type 0 where
  pub name : Name
  pub shape : ℕ
  pub has_other_forms : Bool
  pub denies_unknown : Bool

-- what is seen of one
abbrev pub declared_type_view : declared.DeclaredType → DeclaredType
declared_type_view d = record {
  name = string_bytes d.name;
  shape = d.shape;
  has_other_forms = d.has_other_forms;
  denies_unknown = d.denies_unknown;
}

-- types: their shapes in order, the structs and enums, and the place of the one as which documents
-- are read
pub record Types : Type 0 where
  pub shapes : List Shape
  pub declared : List DeclaredType
  pub root : ℕ

-- the place of the struct or enum of a name
abbrev pub shape_named : List DeclaredType → Name → Option ℕ
shape_named types name =
    option_map (λ (d : DeclaredType). d.shape)
    (find (λ (d : DeclaredType). name_eq d.name name) types)

-- whether a type stands at a place and denies unknown members
abbrev pub denies_at : ℕ → DeclaredType → Bool
denies_at place d = d.shape == place && d.denies_unknown

-- whether one of some types does
abbrev pub denies_unknown : List DeclaredType → ℕ → Bool
denies_unknown types place = list_any (denies_at place) types

-- the names of those of some types that deny unknown members
abbrev pub denying : List DeclaredType → List Name
denying types =
    map (λ (d : DeclaredType). d.name) (filter (λ (d : DeclaredType). d.denies_unknown) types)

-- the names of those of some types that are one of some under different conditions
abbrev pub conditional : List DeclaredType → List Name
conditional types =
    map (λ (d : DeclaredType). d.name) (filter (λ (d : DeclaredType). d.has_other_forms) types)
